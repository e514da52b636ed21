-- An outline by any header and a writing tell the figures that the rules name beside their numbers, and no others.
use Rattle.std.specs.Prelude.{Err, Ok, Option}
use Prim.Native.Nat.{ℕ, ◌≤◌}
use mathlib.Core.Path.{◌≡◌, refl, sym, ap, ◌∙◌}
use mathlib.Core.Bool.{Bool, true, false, cond}
use mathlib.Core.List.{List, [], ◌∷◌}
use native.Mathlib.Omega.{arith}
use lib.ListN.{length}
use lib.Dec.{eqb, leb}
use borrow.Author.Tests.{eqb-true, le-leb, lt-leb, leb-true}
use Rattle.digits.proofs.Bools.{and_left, and_right}
use Rattle.layout.specs.Checks.{Check, must, first_fail}
use Rattle.answers.specs.Answers.{named, answer_number, answer_values, place_values}
use Rattle.answers.specs.declared.Frame.{Frame}
use Rattle.answers.specs.declared.Answer.{Answer}
use Rattle.answers.specs.declared.Answer.TheVariants.{Accepted, NoFrame, Refused}
use Rattle.frame.specs.Header.{Header, length_of, outline_checks, outline_place}
use Rattle.frame.specs.Writing.{write_answer, close_answer}
use Rattle.frame.specs.Figures.{beside, at_most, OutlineTells, WriteSays}
use Rattle.answers.specs.declared.WriteError.TheVariants.{Illegal, NoRoom}

-- ---- an answer made of a number and a frame
pub number-named : (n : ℕ) (f : Frame) (p : Option ℕ) → answer_number (named n f p) ≡ n
number-named n f p = go (eqb n 0) refl (leb n 5)
  where
    go : (t : Bool) → eqb n 0 ≡ t → (u : Bool) → answer_number (cond t (Accepted f) (cond u (NoFrame n p) (Refused n f.length p))) ≡ n
    go true e u = sym (eqb-true n 0 e)
    go false e true = refl
    go false e false = refl

pub values-named : (n : ℕ) (f : Frame) (p : Option ℕ) → answer_values (named n f p) ≡ beside n (f.format ∷ f.seq ∷ f.length ∷ []) f.length p
values-named n f p = go (eqb n 0) (leb n 5)
  where
    go : (t u : Bool) → answer_values (cond t (Accepted f) (cond u (NoFrame n p) (Refused n f.length p)))
        ≡ cond t (f.format ∷ f.seq ∷ f.length ∷ []) (cond u (place_values p) (f.length ∷ place_values p))
    go true u = refl
    go false true = refl
    go false false = refl

-- ---- the numbers of a list of checks
pub fails-at-most : (k : ℕ) (checks : List Check) → at_most k checks ≡ true → first_fail checks ≤ k
fails-at-most k [] h = omega arith
fails-at-most k (must n true ∷ checks) h = fails-at-most k checks (and_right (leb n k) _ h)
fails-at-most k (must n false ∷ checks) h = leb-true n k (and_left _ _ h)

-- ---- an outline
-- of any kind of outline with a number and values: 0 and the header's figures of a whole one, those of the answer of one that is not
module _ {O : Type 0} (number : O → ℕ) (values : O → List ℕ) (not : Answer → O) (its-number : (a : Answer) → number (not a) ≡ answer_number a)
    (its-values : (a : Answer) → values (not a) ≡ answer_values a) (H : Header) (t : List ℕ) (whole : O) (all : List ℕ) (zero-whole : number whole ≡ 0)
    (all_whole : values whole ≡ all) where
  abbrev n : ℕ
  n = first_fail (outline_checks H t)

  abbrev none : Frame
  none = record { format = 0; seq = 0; length = length_of H t }

  abbrev p : Option ℕ
  p = outline_place H n t

  abbrev outline : O
  outline = cond (eqb n 0) whole (not (named n none p))

  told : (number outline ≡ n) × (values outline ≡ beside n all (length_of H t) p)
  told = go (eqb n 0) refl
    where
      go : (b : Bool) → eqb n 0 ≡ b → let o = cond b whole (not (named n none p)) in
          (number o ≡ n) × (values o ≡ cond b all (cond (leb n 5) (place_values p) (length_of H t ∷ place_values p)))
      go true e = (zero-whole ∙ sym (eqb-true n 0 e), all_whole)
      go false e = (
        its-number (named n none p) ∙ number-named n none p,
        its-values (named n none p) ∙ values-named n none p
            ∙ ap (λ (b : Bool). cond b (0 ∷ 0 ∷ length_of H t ∷ []) (cond (leb n 5) (place_values p) (length_of H t ∷ place_values p))) e,
      )

  pub outline-tells : OutlineTells H t all (number outline) (values outline)
  outline-tells = record {
    first = told.0;
    at-most = rw told.0 (fails-at-most 6 (outline_checks H t) refl);
    values = told.1 ∙ ap (λ (k : ℕ). beside k all (length_of H t) (outline_place H k t)) (sym told.0);
  }

-- ---- a writing
says : (legal : Bool) (n room : ℕ) → WriteSays legal n room (cond legal (cond (leb n room) (Ok n) (Err NoRoom)) (Err Illegal))
says legal n room = record {
  written = λ l h. rw (l, le-leb n room h) (refl, refl);
  illegal = λ l. rw l (refl, refl);
  no_room = λ l h. rw (l, lt-leb n room h) (refl, refl);
}

-- of a message's frame, and of closing a frame around a body
pub write-says : (legal : Bool) (f buf : List ℕ) → WriteSays legal (length f) (length buf) (write_answer legal f buf)
write-says legal f buf = says legal (length f) (length buf)

pub close-says : (right : Bool) (n : ℕ) (buf : List ℕ) → WriteSays right n (length buf) (close_answer right n buf)
close-says right n buf = says right n (length buf)
