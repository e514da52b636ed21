-- The heads counted and looked through one after the other, and a block at once.
use Prim.Native.Nat.{ℕ, zero, suc, ◌+◌, ◌%◌, ◌≤◌, ◌<◌}
use mathlib.Core.Path.{◌≡◌, refl, sym, ap, ◌∙◌}
use mathlib.Core.Bool.{Bool, true, false, cond}
use mathlib.Core.List.{List, [], ◌∷◌}
use native.Mathlib.Omega.{arith}
use lib.ListN.{length, get_or, take, drop, length-drop, drop_of_length-le}
use lib.Seq.{drop-drop, take_all}
use borrow.Author.Tests.{eqb-true, eqb-false}
use Rattle.codes_times.proofs.RuleLaws.{next-byte}
use Rattle.stock_board_flat.specs.Steps.{of_code, near_code, count_of, near_count, first_of}

module _ (code : ℕ) (l : List ℕ) (i : ℕ) where
  -- ---- counting
  pub count_next : i < length l → count_of code (drop i l) ≡ cond (of_code code (get_or l i 0)) 1 0 + count_of code (drop (i + 1) l)
  count_next h = ap (count_of code) (next-byte l i h)

  pub count-end : length l ≤ i → count_of code (drop i l) ≡ 0
  count-end h = ap (count_of code) (drop_of_length-le l {i = i} h)

  -- ---- looking for the first: what is found from here on is what is found from the start
  pub first-here : i < length l → i + first_of code (drop i l) ≡ first_of code l → of_code code (get_or l i 0) ≡ true → i ≡ first_of code l
  first-here h e t =
      let z : first_of code (drop i l) ≡ 0 = ap (first_of code) (next-byte l i h) ∙ ap (λ (b : Bool). cond b 0 (suc (first_of code (drop (i + 1) l)))) t in
      omega (arith, z, e)

  pub first_on : i < length l → i + first_of code (drop i l) ≡ first_of code l → of_code code (get_or l i 0) ≡ false
      → i + 1 + first_of code (drop (i + 1) l) ≡ first_of code l
  first_on h e t =
      let z : first_of code (drop i l) ≡ suc (first_of code (drop (i + 1) l)) = ap (first_of code) (next-byte l i h) ∙ ap (λ (b : Bool). cond b 0 (suc (first_of code (drop (i + 1) l)))) t in
      omega (arith, z, e)

  pub first-end : length l ≤ i → i + first_of code (drop i l) ≡ first_of code l → i ≡ first_of code l
  first-end h e =
      let z : first_of code (drop i l) ≡ 0 = ap (first_of code) (drop_of_length-le l {i = i} h) in
      omega (arith, z, e)

  -- ---- counting those that are near
  pub near-count-next : i < length l → near_count code (drop i l) ≡ cond (near_code code (get_or l i 0)) 1 0 + near_count code (drop (i + 1) l)
  near-count-next h = ap (near_count code) (next-byte l i h)

  pub near-count-end : length l ≤ i → near_count code (drop i l) ≡ 0
  near-count-end h = ap (near_count code) (drop_of_length-le l {i = i} h)

-- ---- where no head is near, none has the code
near-one : (code head : ℕ) → near_code (code % 4294967296) head ≡ false → of_code code head ≡ false
near-one code head e = go (of_code code head) refl
  where
    go : (t : Bool) → of_code code head ≡ t → t ≡ false
    go false p = refl
    go true p =
        let same : head % 281474976710656 ≡ code = eqb-true (head % 281474976710656) code p in
        let low : head % 4294967296 ≡ code % 4294967296 = omega (arith, same) in
        absurd (eqb-false (head % 4294967296) (code % 4294967296) e low)

abbrev low_of : ℕ → ℕ
low_of code = code % 4294967296

pub near_none : (code : ℕ) (l : List ℕ) → near_count (low_of code) l ≡ 0 → length l ≡ first_of code l
near_none code [] e = refl
near_none code (x ∷ l) e = go (near_code (low_of code) x) refl (near_none code l)
  where
    go : (t : Bool) → near_code (low_of code) x ≡ t → (near_count (low_of code) l ≡ 0 → length l ≡ first_of code l) → suc (length l) ≡ cond (of_code code x) 0 (suc (first_of code l))
    go true q ih =
        let o : ◌≡◌ {A = ℕ} (cond (near_code (low_of code) x) 1 0) 1 = ap (λ (b : Bool). cond b 1 0) q in
        absurd (omega (arith, o, e))
    go false q ih = ap suc (ih (omega (arith, e))) ∙ sym (ap (λ (b : Bool). cond b 0 (suc (first_of code l))) (near-one code x q))

-- ---- the first of all is the first of a block, or is behind it
pub first_block : (code k : ℕ) (l : List ℕ) → first_of code (take k l) < k → first_of code (take k l) < length l → first_of code l ≡ first_of code (take k l)
first_block code zero l h n = absurd (omega arith)
first_block code (suc k) [] h n = absurd (omega arith)
first_block code (suc k) (x ∷ l) h n = go (of_code code x) refl (first_block code k l)
  where
    go : (t : Bool) → of_code code x ≡ t → (first_of code (take k l) < k → first_of code (take k l) < length l → first_of code l ≡ first_of code (take k l))
        → cond (of_code code x) 0 (suc (first_of code l)) ≡ cond (of_code code x) 0 (suc (first_of code (take k l)))
    go true q ih = rw q
    go false q ih =
        let e : cond (of_code code x) 0 (suc (first_of code (take k l))) ≡ suc (first_of code (take k l)) = ap (λ (b : Bool). cond b 0 (suc (first_of code (take k l)))) q in
        rw q (ap suc (ih (omega (arith, e, h)) (omega (arith, e, n))))

pub first-behind : (code k : ℕ) (l : List ℕ) → k ≤ length l → k ≤ first_of code (take k l) → first_of code l ≡ k + first_of code (drop k l)
first-behind code zero l h e = omega arith
first-behind code (suc k) [] h e = absurd (omega arith)
first-behind code (suc k) (x ∷ l) h e = go (of_code code x) refl (first-behind code k l (omega arith))
  where
    go : (t : Bool) → of_code code x ≡ t → (k ≤ first_of code (take k l) → first_of code l ≡ k + first_of code (drop k l))
        → cond t 0 (suc (first_of code l)) ≡ suc k + first_of code (drop k l)
    go true q ih =
        let o : cond (of_code code x) 0 (suc (first_of code (take k l))) ≡ 0 = ap (λ (b : Bool). cond b 0 (suc (first_of code (take k l)))) q in
        absurd (omega (arith, o, e))
    go false q ih =
        let o : cond (of_code code x) 0 (suc (first_of code (take k l))) ≡ suc (first_of code (take k l)) = ap (λ (b : Bool). cond b 0 (suc (first_of code (take k l)))) q in
        omega (arith, ih (omega (arith, o, e)))

-- ---- block by block: what is found from here on is what is found from the start
module _ (code k n at : ℕ) (l : List ℕ) (room : at + k ≤ length l) (e : n ≡ k) (so : at + first_of code (drop at l) ≡ first_of code l) where
  inside : k ≤ length (drop at l)
  inside = simp length-drop (omega arith)

  pub block-has : (i : ℕ) → i ≡ first_of code (take n (drop at l)) → i < k → at + i ≡ first_of code l
  block-has i p h =
      let q : i ≡ first_of code (take k (drop at l)) = p ∙ ap (λ (j : ℕ). first_of code (take j (drop at l))) e in
      let first = first_block code k (drop at l) (omega (arith, q)) (omega (arith, q, inside)) in
      omega (arith, q, first, so)

  pub block_none : (i : ℕ) → i ≡ first_of code (take n (drop at l)) → k ≤ i → at + k + first_of code (drop (at + k) l) ≡ first_of code l
  block_none i p h =
      let q : i ≡ first_of code (take k (drop at l)) = p ∙ ap (λ (j : ℕ). first_of code (take j (drop at l))) e in
      let behind = first-behind code k (drop at l) inside (omega (arith, q)) in
      let same : first_of code (drop k (drop at l)) ≡ first_of code (drop (at + k) l) = ap (first_of code) (drop-drop k at l) in
      omega (arith, behind, same, so)

-- and behind the last block what is left is looked through
pub rest_has : (code at : ℕ) (l : List ℕ) (n i : ℕ) → at + first_of code (drop at l) ≡ first_of code l → i ≡ first_of code (take n (drop at l)) → length l ≤ at + n → at + i ≡ first_of code l
rest_has code at l n i so e h =
    let all : take n (drop at l) ≡ drop at l = take_all n (drop at l) (simp length-drop (omega arith)) in
    let q : i ≡ first_of code (drop at l) = e ∙ ap (first_of code) all in
    omega (arith, q, so)

-- no place is further than behind the last
pub first-most : (code : ℕ) (l : List ℕ) → first_of code l ≤ length l
first-most code [] = omega arith
first-most code (x ∷ l) = go (of_code code x) (first-most code l)
  where
    go : (t : Bool) → first_of code l ≤ length l → cond t 0 (suc (first_of code l)) ≤ suc (length l)
    go true h = omega arith
    go false h = omega arith
