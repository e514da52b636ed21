-- What the frames that are handed out unread are to the walk: no accepted frame is left out, and behind a frame's length the
-- walk goes on.
use Rattle.std.specs.Prelude.{Err, Ok, Option, Result}
use Prim.Native.Nat.{ℕ, ◌≤◌}
use mathlib.Core.Path.{◌≡◌, refl, sym, ap, ◌∙◌}
use mathlib.Core.Bool.{Bool, true, false, cond}
use mathlib.Core.List.{List, ◌++◌}
use native.Mathlib.Omega.{arith}
use lib.Dec.{eqb, leb}
use borrow.Author.Tests.{eqb-false, ne_eqb, le-leb, leb-true, leb-false}
use Rattle.layout.specs.Checks.{Check, first_fail}
use Rattle.layout.proofs.CheckLaws.{silent, silent-answers}
use Rattle.answers.specs.Answers.{named}
use Rattle.answers.specs.declared.Frame.{Frame}
use Rattle.answers.specs.declared.Answer.TheVariants.{Accepted, NoFrame, Refused}
use Rattle.stock_frame.specs.Outline.{length_of, own, body, business, format, version, sequence, head_of, outline_of, outline_checks, outline_place}
use Rattle.stock_frame.specs.Format.{body_checks}
use Rattle.stock_frame.specs.declared.head.Head.{Head}
use Rattle.stock_frame.proofs.OutlineLaws.{length-own}
use Rattle.stock_frame.proofs.PartLaws.{whole-outlined, not-outlined}
use Rattle.stock_reading.specs.Reading.{format_of, kind_checks, checks, place_of, answer_of}
use Rattle.stock_reading.proofs.ReadingLaws.{checks-outlined, answer-not}
use Rattle.walk.specs.Answers.{past_of}
use Rattle.answers.specs.declared.Answer.{Answer}

-- ---- an accepted frame is handed out
refusal : (n : ℕ) (f g : Frame) (p : Option ℕ) → (n ≡ 0 → ⊥) → named n f p ≡ Accepted g → ⊥
refusal n f g p h e = go (leb n 5) (sym (ap (λ (b : Bool). cond b (Accepted f) (cond (leb n 5) (NoFrame n p) (Refused n f.length p))) (ne_eqb n 0 h)) ∙ e)
  where
    go : (b : Bool) → cond b (NoFrame n p) (Refused n f.length p) ≡ Accepted g → ⊥
    go true q = let z : ◌≡◌ {A = ℕ} 0 1 = cc in omega arith
    go false q = let z : ◌≡◌ {A = ℕ} 0 1 = cc in omega arith

-- the outline of an accepted frame is whole, with the header of its own bytes
pub accepted-whole : (t : List ℕ) (f : Frame) → answer_of t ≡ Accepted f → outline_of t ≡ Ok (head_of (own t))
accepted-whole t f a = go (outline_of t) refl
  where
    go : (o : Result Head Answer) → outline_of t ≡ o → o ≡ Ok (head_of (own t))
    go (Ok h) e = ap Ok (whole-outlined t h e).1
    go (Err x) e =
        let n = not-outlined t x e in
        absurd (refusal (first_fail (outline_checks t)) (record { format = 0; seq = 0; length = length_of t }) f (outline_place (first_fail (outline_checks t)) t) n.0 (sym n.1 ∙ answer-not t x e ∙ a))

-- ---- behind its length the walk goes on
module _ (t : List ℕ) (h : Head) (e : outline_of t ≡ Ok h) where
  abbrev after : List Check
  after = kind_checks (business (own t)) (format (own t)) (version (own t)) ++ body_checks (format_of (format (own t))) (body (own t))

  abbrev n : ℕ
  n = first_fail (checks t)

  fails : n ≡ first_fail after
  fails = checks-outlined t (whole-outlined t h e).0

  -- the checks behind an outline answer none of 1 to 5
  other : (k : ℕ) → silent k after ≡ true → 1 ≤ k → n ≡ k → ⊥
  other k s l q = let z = silent-answers k after s (sym fails ∙ q) in omega (arith, l, z)

  none-small : (1 ≤ n) → (n ≤ 5) → ⊥
  none-small l m =
      omega
      (arith, l, m, other 1 refl (omega arith), other 2 refl (omega arith), other 3 refl (omega arith), other 4 refl (omega arith), other 5 refl (omega arith))

  -- what a walk goes past there is the frame's length
  pub whole-past : (c : Bool) → past_of c (answer_of t) ≡ h.length
  unfolding answer_of
  whole-past c = go (eqb n 0) (leb n 5) refl refl
    where
      long : length_of t ≡ h.length
      long = let w = whole-outlined t h e in sym (length-own t w.0) ∙ ap (λ (x : Head). x.length) (sym w.1)

      go : (x y : Bool) → eqb n 0 ≡ x → leb n 5 ≡ y
          → past_of c (cond x (Accepted (record { format = format (own t); seq = sequence (own t); length = length_of t })) (cond y (NoFrame n (place_of n t)) (Refused n (length_of t) (place_of n t)))) ≡ h.length
      go true y p q = long
      go false true p q = absurd (none-small (omega (arith, eqb-false n 0 p)) (leb-true n 5 q))
      go false false p q =
          let big = leb-false n 5 q in
          rw (ne_eqb n 2 (λ z. omega (arith, big, z)), ne_eqb n 0 (λ z. omega (arith, big, z)), le-leb 6 n (omega (arith, big))) long
