-- What a reading at a place comes to: inside the bytes, outside them, and by its first byte.
use Prim.Native.Nat.{ℕ, suc, ◌+◌, ◌≤◌, ◌<◌}
use mathlib.Core.Path.{◌≡◌, ap}
use mathlib.Core.Bool.{Bool, cond}
use mathlib.Core.List.{List, ◌∷◌}
use native.Mathlib.Numerals.{add-one}
use lib.Dec.{leb}
use lib.ListN.{length, get_or, take, drop}
use lib.Seq.{drop-cons}
use borrow.Author.Tests.{le-leb, lt-leb}

-- a place inside, and a place from which the bytes run past the end
module _ {A : Type 0} (n at : ℕ) (s : List ℕ) (x y : A) where
  pub inside : at + n ≤ length s → cond (leb (at + n) (length s)) x y ≡ x
  inside h = ap (λ (t : Bool). cond t x y) (le-leb (at + n) (length s) h)

  pub outside : length s < at + n → cond (leb (at + n) (length s)) x y ≡ y
  outside h = ap (λ (t : Bool). cond t x y) (lt-leb (at + n) (length s) h)

-- the first byte and the others
pub take-first : (n at : ℕ) (s : List ℕ) → at < length s → take (suc n) (drop at s) ≡ get_or s at 0 ∷ take n (drop (at + 1) s)
take-first n at s h = rw (add-one, drop-cons s at 0)
