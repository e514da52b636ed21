-- What an append answers and leaves, by what is said of the finished blocks.
use Prim.Native.Nat.{ℕ, ◌+◌, ◌-◌, ◌*◌, ◌<◌, ◌≤◌, min}
use mathlib.Core.Path.{◌≡◌, refl, sym, ap, ◌∙◌}
use mathlib.Core.Bool.{true, false, not, cond}
use mathlib.Core.List.{List}
use native.Mathlib.Omega.{arith}
use borrow.Author.Tests.{eq-eqb, ne_eqb, lt-ltb, le-ltb}
use lib.ListN.{length}
use lib.Dec.{eqb, ltb}
use Rattle.capture.specs.Blocks.{block_of}
use Rattle.capture.specs.Captures.{whole, first_bad, first_unfinished}
use Rattle.capture.specs.Calls.{held_of}
use Rattle.std.specs.Prelude.{Result, Ok, Err}
use mathlib.Core.Logic.{◌⊎◌, inl, inr}
use Rattle.capture.specs.declared.Unsound.{Unsound}
use Rattle.capture.proofs.JudgeLaws.{found-open}
use Rattle.capture.proofs.CallLaws.{blocks-say, refused-says}
use Rattle.capture_append.specs.Stores.{stores, stored_from}
use Rattle.capture_append.specs.Appending.{taken_of, bytes_at, taken_bytes}
use Rattle.capture_append.specs.declared.AppendError.{AppendError}

-- an append that answers so leaves what the answer says
module _ (m x : List ℕ) (k : ℕ) where
  says : (t : Result ℕ AppendError) → t ≡ taken_of m x → (t ≡ taken_of m x) × (bytes_at t m x k ≡ taken_bytes m x k)
  unfolding taken_bytes
  says t is = (is, ap (λ (u : Result ℕ AppendError). bytes_at u m x k) is)

  pub taken-small : (length m ≡ 65536 → ⊥) → (Err (AppendError.Unsound Unsound.WrongSize) ≡ taken_of m x) × (m ≡ taken_bytes m x k)
  unfolding taken_of
  taken-small other = says (Err (AppendError.Unsound Unsound.WrongSize)) (rw (ne_eqb (length m) 65536 other) refl)

  module _ (long : length m ≡ 65536) where
    pub taken-empty : length x ≡ 0 → (Err AppendError.PayloadLength ≡ taken_of m x) × (m ≡ taken_bytes m x k)
    unfolding taken_of
    taken-empty e = says (Err AppendError.PayloadLength) (rw (eq-eqb (length m) 65536 long, eq-eqb (length x) 0 e) refl)

    pub taken-over : (length x ≡ 0 → ⊥) → 504 < length x → (Err AppendError.PayloadLength ≡ taken_of m x) × (m ≡ taken_bytes m x k)
    unfolding taken_of
    taken-over ne over = says (Err AppendError.PayloadLength) (rw (eq-eqb (length m) 65536 long, ne_eqb (length x) 0 ne, lt-ltb 504 (length x) over) refl)

    module _ (ne : length x ≡ 0 → ⊥) (fits : length x ≤ 504) where
      -- a payload that fits: what the rest of the tests answer
      rest : taken_of m x ≡ cond (not (eqb (first_bad m) 0)) (Err (AppendError.Unsound (Unsound.BadBlock (first_bad m)))) (cond (eqb (first_unfinished m) 0) (Err AppendError.Full) (Ok (first_unfinished m)))
      unfolding taken_of
      rest = rw (eq-eqb (length m) 65536 long, ne_eqb (length x) 0 ne, le-ltb 504 (length x) fits) refl

      pub taken-refused : (u : Unsound) → Err u ≡ held_of m → (Err (AppendError.Unsound u) ≡ taken_of m x) × (m ≡ taken_bytes m x k)
      taken-refused u is = go (refused-says m u is)
        where
          go : ((whole m ≡ false) × (u ≡ Unsound.WrongSize)) ⊎ ((eqb (first_bad m) 0 ≡ false) × (u ≡ Unsound.BadBlock (first_bad m)))
              → (Err (AppendError.Unsound u) ≡ taken_of m x) × (m ≡ taken_bytes m x k)
          go (inl small) = let z : true ≡ false = sym (eq-eqb (length m) 65536 long) ∙ small.0 in let y : ◌≡◌ {A = ℕ} 0 1 = cc in absurd (omega (arith, y))
          go (inr bad) = says (Err (AppendError.Unsound u)) (sym (rest ∙ rw bad.0 (ap (λ (v : Unsound). Err (AppendError.Unsound v)) (sym bad.1))))

      module _ (n : ℕ) (is : Ok n ≡ held_of m) where
        fine : first_bad m ≡ 0
        fine = (blocks-say m n is).1

        place : first_unfinished m ≡ cond (ltb n 128) (n + 1) 0
        place = found-open m fine ∙ ap (λ (j : ℕ). cond (ltb j 128) (j + 1) 0) (sym (blocks-say m n is).2)

        pub taken-full : 128 ≤ n → (Err AppendError.Full ≡ taken_of m x) × (m ≡ taken_bytes m x k)
        taken-full h = says (Err AppendError.Full) (sym (rest ∙ rw (fine, place, le-ltb n 128 h) refl))

        pub taken_at : n < 128 → (Ok (n + 1) ≡ taken_of m x) × (stored_from m (512 * n) (block_of (n + 1) x) (min k stores) ≡ taken_bytes m x k)
        taken_at h =
            let at : first_unfinished m ≡ n + 1 = place ∙ rw (lt-ltb n 128 h) refl in
            let e : n + 1 - 1 ≡ n = omega arith in
            let both = says (Ok (n + 1)) (sym (rest ∙ rw (fine, at, ne_eqb (n + 1) 0 (λ z. omega (arith, z))) refl)) in
            (both.0, ap (λ (j : ℕ). stored_from m (512 * j) (block_of (n + 1) x) (min k stores)) (sym e) ∙ both.1)
