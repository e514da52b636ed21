-- Bytes before the next 27 may be told at once.
use Rattle.std.specs.Prelude.{None, Result}
use Prim.Native.Nat.{ℕ, zero, suc, ◌+◌, ◌≤◌, ◌<◌}
use mathlib.Core.Path.{◌≡◌, refl, sym, ap, ◌∙◌}
use mathlib.Core.Bool.{Bool, true, false, cond}
use mathlib.Core.List.{List, [], ◌∷◌}
use native.Mathlib.Omega.{arith}
use native.Mathlib.Numerals.{add-one}
use lib.ListN.{length, get_or, drop, drop_of_length-le}
use lib.Seq.{drop-cons}
use lib.Dec.{eqb}
use borrow.Author.Tests.{eqb-false, eq-eqb, ne_eqb}
use Rattle.answers.specs.declared.Answer.{Answer}
use Rattle.answers.specs.declared.Answer.TheVariants.{NoFrame}
use Rattle.walk.specs.Walk.{Reading, Move, taken, stops, walk_from}
use Rattle.walk.specs.Sound.{Sound}
use Rattle.walk.specs.Answers.{answering}
use Rattle.walk.specs.Noise.{noise_length}
use Rattle.walk.specs.Told.{holds, told_of, on_told, next_of}
use Rattle.walk.specs.declared.rows.Kept.{Kept}
use Rattle.walk.specs.declared.rows.Told.{Told}
use Rattle.walk.specs.declared.rows.Next.{Next}
use Rattle.walk.proofs.WalkLaws.{walk-moves}
use Rattle.walk.proofs.ToldLaws.{half, told-half, told-twice, told-full}
use Rattle.walk.specs.declared.rows.RowsError.{RowsError}

-- ---- the noise from a place of a line on
at_place : (line : List ℕ) (i : ℕ) → i < length line → drop i line ≡ get_or line i 0 ∷ drop (i + 1) line
at_place line i h = rw add-one (drop-cons line i 0 h)

pub noise-ends : (line : List ℕ) (i : ℕ) → length line ≤ i → noise_length (drop i line) ≡ 0
noise-ends line i h = ap noise_length (drop_of_length-le line h)

pub noise-stops : (line : List ℕ) (i : ℕ) → i < length line → get_or line i 0 ≡ 27 → noise_length (drop i line) ≡ 0
noise-stops line i h e = ap noise_length (at_place line i h) ∙ rw (eq-eqb (get_or line i 0) 27 e)

pub noise-goes-on : (line : List ℕ) (i : ℕ) → i < length line → (get_or line i 0 ≡ 27 → ⊥) → noise_length (drop i line) ≡ suc (noise_length (drop (i + 1) line))
noise-goes-on line i h e = ap noise_length (at_place line i h) ∙ rw (ne_eqb (get_or line i 0) 27 e)

-- ---- told at once
module _ (says : List ℕ → Answer) (longest : ℕ) (S : Sound (answering says) longest) (quiet : (b : ℕ) (bs : List ℕ) → (b ≡ 27 → ⊥) → says (b ∷ bs) ≡ NoFrame 1 None) (c : Bool) where
  abbrev R : Reading Answer
  R = answering says

  -- a move over one of them
  noise-moves : (place b : ℕ) (bs : List ℕ) → (b ≡ 27 → ⊥) → walk_from R c place (b ∷ bs) ≡ record { at = place; said = NoFrame 1 None; bytes = 1 } ∷ walk_from R c (place + 1) bs
  noise-moves place b bs h =
      let q = quiet b bs h in
      let moves : stops R c (b ∷ bs) ≡ false = rw q in
      (walk-moves R longest S c place (b ∷ bs) moves).0
      ∙ (λ i. record { at = place; said = q i; bytes = taken R (q i) } ∷ walk_from R c (place + taken R (q i)) (drop (taken R (q i)) (b ∷ bs)))

  -- what follows them
  abbrev later : Kept → ℕ → List ℕ → ℕ → Result Next RowsError
  later k n t at = on_told (told_of k (NoFrame 1 None) n) (at + n) (next_of (walk_from R c (k.at + n) (drop n t)))

  one : (k : Kept) (b : ℕ) (bs : List ℕ) (at : ℕ) → (b ≡ 27 → ⊥) → next_of (walk_from R c k.at (b ∷ bs)) k at ≡ later k 1 (b ∷ bs) at
  one k b bs at h = ap (λ (ms : List (Move Answer)). next_of ms k at) (noise-moves k.at b bs h)

  is-noise : (b : ℕ) (bs : List ℕ) (n : ℕ) → suc n ≤ noise_length (b ∷ bs) → (b ≡ 27 → ⊥) × (n ≤ noise_length bs)
  is-noise b bs n h = go (eqb b 27) refl h
    where
      go : (x : Bool) → eqb b 27 ≡ x → suc n ≤ cond x 0 (suc (noise_length bs)) → (b ≡ 27 → ⊥) × (n ≤ noise_length bs)
      go true e q = absurd (omega arith)
      go false e q = (eqb-false b 27 e, omega arith)

  pub noise-next : (n : ℕ) (t : List ℕ) (k : Kept) (at : ℕ) → 1 ≤ n → n ≤ noise_length t → next_of (walk_from R c k.at t) k at ≡ later k n t at
  noise-next zero t k at l h = absurd (omega arith)
  noise-next (suc n) [] k at l h = absurd (omega arith)
  noise-next (suc zero) (b ∷ bs) k at l h = one k b bs at (is-noise b bs zero h).0
  noise-next (suc (suc n)) (b ∷ bs) k at l h =
      let q = is-noise b bs (suc n) h in
      one k b bs at q.0 ∙ go (holds k 1) refl (λ x. noise-next (suc n) bs x (at + 1) (omega arith) q.1)
    where
      joined : 1 + suc n ≡ suc (suc n)
      joined = omega arith

      go : (x : Bool) → holds k 1 ≡ x → ((j : Kept) → next_of (walk_from R c j.at bs) j (at + 1) ≡ later j (suc n) bs (at + 1)) → later k 1 (b ∷ bs) at ≡ later k (suc (suc n)) (b ∷ bs) at
      go true e ih =
          let far : at + 1 + suc n ≡ at + suc (suc n) = omega arith in
          let place : k.at + 1 + suc n ≡ k.at + suc (suc n) = omega arith in
          ap (λ (x : Result Told RowsError). on_told x (at + 1) (next_of (walk_from R c (k.at + 1) bs))) (told-half k (NoFrame 1 None) refl 1 (suc n) (omega arith) e)
          ∙ ih (half k (NoFrame 1 None) refl 1 (suc n) (omega arith))
          ∙ (λ i. on_told ((told-twice k (NoFrame 1 None) refl 1 (suc n) (omega arith) ∙ ap (told_of k (NoFrame 1 None)) joined) i) (far i) (next_of (walk_from R c (place i) (drop (suc n) bs))))
      go false e ih =
          let f = told-full k (NoFrame 1 None) refl 1 (suc n) (omega arith) e in
          ap (λ (x : Result Told RowsError). on_told x (at + 1) (next_of (walk_from R c (k.at + 1) bs))) f.0
          ∙ sym (ap (λ (x : Result Told RowsError). on_told x (at + suc (suc n)) (next_of (walk_from R c (k.at + suc (suc n)) (drop (suc n) bs)))) (sym (ap (told_of k (NoFrame 1 None)) joined) ∙ f.1))
