-- Parts of a block, as the code looks at them.
use Prim.Native.Nat.{ℕ, zero, suc, ◌+◌, ◌-◌, ◌<◌, ◌≤◌}
use mathlib.Core.Path.{◌≡◌, refl, sym, ap, ◌∙◌}
use mathlib.Core.Bool.{Bool, true, false, ◌&&◌}
use mathlib.Core.List.{List, [], ◌∷◌}
use native.Mathlib.Omega.{arith}
use borrow.Author.Tests.{eq-eqb, ne_eqb, le-leb, lt-leb}
use lib.ListN.{get_or, take, drop}
use lib.Seq.{take-nil}
use lib.Dec.{eqb}
use Rattle.fletcher.specs.declared.Sums.{Sums}
use Rattle.fletcher.specs.Fletcher.{fletcher}
use Rattle.capture.specs.Blocks.{number, used, all_zero, zeros_behind, in_range, check_fits, intact}
use Rattle.capture.specs.Searches.{formed, sound}

-- what is taken of the rest is the rest of what is taken
pub drop-take-add : (k n : ℕ) (l : List ℕ) → drop k (take (k + n) l) ≡ take n (drop k l)
drop-take-add zero n l = let e : 0 + n ≡ n = omega arith in ap (λ (j : ℕ). take j l) e
drop-take-add (suc k) n [] = let e : suc k + n ≡ suc (k + n) = omega arith in rw e (sym (take-nil n))
drop-take-add (suc k) n (x ∷ l) = let e : suc k + n ≡ suc (k + n) = omega arith in rw e (drop-take-add k n l)

pub drop-take : (k n : ℕ) (l : List ℕ) → k ≤ n → take (n - k) (drop k l) ≡ drop k (take n l)
drop-take k n l h = let e : k + (n - k) ≡ n = omega arith in sym (drop-take-add k (n - k) l) ∙ ap (λ (j : ℕ). drop k (take j l)) e

-- the zeros are those of the part behind the used bytes
pub zeros-part : (b : List ℕ) (n : ℕ) → n ≡ used b → n ≤ 504 → all_zero (take (510 - (n + 6)) (drop (n + 6) b)) ≡ zeros_behind b
unfolding zeros_behind
zeros-part b n is h =
    let e : n + 6 ≡ 6 + used b = omega (arith, is) in
    ap all_zero (drop-take (n + 6) 510 b (omega arith) ∙ ap (λ (j : ℕ). drop j (take 510 b)) e)

module _ (b : List ℕ) (p : ℕ) where
  -- number, range and zeros, one after the other
  pub other-number : (number b ≡ p → ⊥) → false ≡ formed b p
  unfolding formed
  other-number h = rw (ne_eqb (number b) p h) refl

  module _ (own : number b ≡ p) where
    pub none-used : used b ≡ 0 → false ≡ formed b p
    unfolding formed in_range
    none-used h = rw (eq-eqb (number b) p own, h) refl

    pub too_many : 504 < used b → false ≡ formed b p
    unfolding formed in_range
    too_many h = rw (eq-eqb (number b) p own, lt-leb (used b) 504 h, le-leb 1 (used b) (omega arith)) refl

    pub zeros-decide : (used b ≡ 0 → ⊥) → used b ≤ 504 → zeros_behind b ≡ formed b p
    unfolding formed in_range
    zeros-decide u h = rw (eq-eqb (number b) p own, le-leb 1 (used b) (omega arith), le-leb (used b) 504 h) refl

  -- and the check behind them
  pub formed-checked : sound b p ≡ (formed b p && check_fits b)
  unfolding sound formed intact
  formed-checked = go (eqb (number b) p) (in_range b) (zeros_behind b)
    where
      go : (n r z : Bool) → (n && (r && (z && check_fits b))) ≡ ((n && (r && z)) && check_fits b)
      go true true z = refl
      go true false z = refl
      go false r z = refl

-- the check of a block: the first sum, then the second
module _ (b : List ℕ) (s : Sums) (is : s ≡ fletcher (take 510 b)) where
  pub first-misses : (get_or b 510 0 ≡ s.first → ⊥) → false ≡ check_fits b
  unfolding check_fits
  first-misses h = rw (ne_eqb (get_or b 510 0) (fletcher (take 510 b)).first (λ e. h (e ∙ ap (λ (t : Sums). t.first) (sym is)))) refl

  pub second-decides : get_or b 510 0 ≡ s.first → eqb (get_or b 511 0) s.second ≡ check_fits b
  unfolding check_fits
  second-decides h =
      rw (eq-eqb (get_or b 510 0) (fletcher (take 510 b)).first (h ∙ ap (λ (t : Sums). t.first) is))
      (ap (λ (t : Sums). eqb (get_or b 511 0) t.second) is)
