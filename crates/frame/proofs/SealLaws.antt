-- The bytes around any inner part: 27, the check byte over it, 0D 0A.
use Prim.Native.Nat.{ℕ, suc, ◌+◌, ◌-◌}
use mathlib.Core.Path.{◌≡◌, sym, ap, ◌∙◌}
use mathlib.Core.Bool.{true}
use mathlib.Core.List.{List, [], ◌∷◌, ◌++◌}
use native.Mathlib.Omega.{arith}
use lib.ListN.{length, get_or, take, length-append}
use lib.Seq.{take_at, get_or-append-add}
use borrow.Author.Tests.{eq-eqb}
use Rattle.digits.proofs.Bools.{and_both}
use Rattle.words.specs.Xor.{xor_of}
use Rattle.frame.specs.Header.{inner, check_byte, ended}
use Rattle.frame.specs.Writing.{sealed}

module _ (i : List ℕ) where
  pub length-sealed : length (sealed i) ≡ 4 + length i
  length-sealed = ap suc (length-append i (xor_of i ∷ 13 ∷ 10 ∷ [])) ∙ omega arith

  pub inner-sealed : inner (sealed i) ≡ i
  inner-sealed =
      ap (λ (k : ℕ). take (k - 4) (i ++ (xor_of i ∷ 13 ∷ 10 ∷ []))) length-sealed
      ∙ take_at i (xor_of i ∷ 13 ∷ 10 ∷ []) (4 + length i - 4) (omega arith)

  last-bytes : (k : ℕ) → get_or (sealed i) (suc (length i + k)) 0 ≡ get_or (xor_of i ∷ 13 ∷ 10 ∷ []) k 0
  last-bytes k = get_or-append-add i (xor_of i ∷ 13 ∷ 10 ∷ []) k 0

  pub check-sealed : check_byte (sealed i) ≡ xor_of (inner (sealed i))
  check-sealed =
      let p : length (sealed i) - 3 ≡ suc (length i + 0) = omega (arith, length-sealed) in
      ap (λ (k : ℕ). get_or (sealed i) k 0) p ∙ last-bytes 0 ∙ sym (ap xor_of inner-sealed)

  pub ended-sealed : ended (sealed i) ≡ true
  ended-sealed =
      let p : length (sealed i) - 2 ≡ suc (length i + 1) = omega (arith, length-sealed) in
      let q : length (sealed i) - 1 ≡ suc (length i + 2) = omega (arith, length-sealed) in
      and_both
      (eq-eqb _ _ (ap (λ (k : ℕ). get_or (sealed i) k 0) p ∙ last-bytes 1))
      (eq-eqb _ _ (ap (λ (k : ℕ). get_or (sealed i) k 0) q ∙ last-bytes 2))
