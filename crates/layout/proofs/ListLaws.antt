-- Lists read off entry by entry.
use Prim.Native.Nat.{ℕ, zero, suc, ◌+◌, ◌≤◌}
use mathlib.Core.Path.{◌≡◌, refl, sym, ap, ◌∙◌}
use mathlib.Core.List.{List, [], ◌∷◌}
use native.Mathlib.Omega.{arith}
use lib.ListN.{length, get_or, take, drop}
use lib.Seq.{drop-cons, take_all}

module _ {A : Type 0} where
  -- k entries from a place on, one by one
  abbrev pub listed : ℕ → ℕ → A → List A → List A
  listed zero i d l = []
  listed (suc k) i d l = get_or l i d ∷ listed k (suc i) d l

  pub listed-is : (k i : ℕ) (d : A) (l : List A) → i + k ≤ length l → listed k i d l ≡ take k (drop i l)
  listed-is zero i d l h = refl
  listed-is (suc k) i d l h = ap (λ (r : List A). get_or l i d ∷ r) (listed-is k (suc i) d l (omega arith)) ∙ sym (ap (take (suc k)) (drop-cons l i d (omega arith)))

  -- a list of n entries is they
  pub listed-all : (n : ℕ) (d : A) (l : List A) → length l ≡ n → listed n 0 d l ≡ l
  listed-all n d l e = listed-is n 0 d l (omega (arith, e)) ∙ take_all n l (omega (arith, e))
