-- What stores leave of a block and of the others: a torn block has no number, and after all stores it is the new block.
use Prim.Native.Nat.{ℕ, zero, suc, ◌+◌, ◌-◌, ◌%◌, ◌<◌, ◌≤◌}
use mathlib.Core.Path.{◌≡◌, refl, sym, ap, ◌∙◌}
use mathlib.Core.Bool.{Bool, true, false, cond}
use mathlib.Core.List.{List}
use native.Mathlib.Omega.{arith}
use borrow.Author.Tests.{lt-ltb, le-ltb, eqb-true, eqb-false, ltb-true, ltb-false}
use lib.ListN.{length, get_or, set, take, drop, length-set}
use lib.Seq.{get_or-set_same, get_or-set_other, ext_get_or, drop-set-add, drop-set-lt, take-set-lt, take-set-le}
use lib.Dec.{eqb, ltb}
use Rattle.capture.specs.Blocks.{number}
use Rattle.capture.specs.Captures.{start_of, block_at}
use Rattle.capture_append.specs.Stores.{stored_byte, store_of, stored_from}

-- a block after the first k stores over it
abbrev pub torn : List ℕ → List ℕ → ℕ → List ℕ
torn old b zero = old
torn old b (suc k) = set (torn old b k) (stored_byte k) (get_or b (stored_byte k) 0)

pub torn-long : (old b : List ℕ) (k : ℕ) → length (torn old b k) ≡ length old
torn-long old b zero = refl
torn-long old b (suc k) = length-set (torn old b k) (stored_byte k) (get_or b (stored_byte k) 0) ∙ torn-long old b k

-- a byte whose store is not the next one
apart : (k i : ℕ) → suc k ≤ 512 → i < 512 → k ≤ (i + 508) % 512 → (stored_byte k ≡ i → ⊥) → suc k ≤ (i + 508) % 512
apart k i h t f other = omega (arith, h, t, f, other)

-- a byte of it is the new one exactly if its store was done
pub torn-at : (old b : List ℕ) (k i : ℕ) → length old ≡ 512 → k ≤ 512 → i < 512 → get_or (torn old b k) i 0 ≡ cond (ltb ((i + 508) % 512) k) (get_or b i 0) (get_or old i 0)
torn-at old b zero i l h t = sym (rw (le-ltb ((i + 508) % 512) 0 (omega arith)) refl)
torn-at old b (suc k) i l h t = go (eqb (stored_byte k) i) refl (torn-at old b k i l (omega arith) t)
  where
    go : (s : Bool) → eqb (stored_byte k) i ≡ s → get_or (torn old b k) i 0 ≡ cond (ltb ((i + 508) % 512) k) (get_or b i 0) (get_or old i 0)
        → get_or (torn old b (suc k)) i 0 ≡ cond (ltb ((i + 508) % 512) (suc k)) (get_or b i 0) (get_or old i 0)
    go true e ih =
        let same : stored_byte k ≡ i = eqb-true (stored_byte k) i e in
        ap (λ (j : ℕ). get_or (set (torn old b k) j (get_or b j 0)) i 0) same
        ∙ get_or-set_same (torn old b k) i (get_or b i 0) 0 (omega (arith, torn-long old b k))
        ∙ sym (rw (lt-ltb ((i + 508) % 512) (suc k) (omega (arith, same))) refl)
    go false e ih =
        let other = eqb-false (stored_byte k) i e in
        get_or-set_other (torn old b k) (stored_byte k) i (get_or b (stored_byte k) 0) 0 (λ z. other (sym z))
        ∙ ih ∙ ap (λ (s : Bool). cond s (get_or b i 0) (get_or old i 0)) (same_test (ltb ((i + 508) % 512) k) refl other)
      where
        same_test : (s : Bool) → ltb ((i + 508) % 512) k ≡ s → (stored_byte k ≡ i → ⊥) → ltb ((i + 508) % 512) k ≡ ltb ((i + 508) % 512) (suc k)
        same_test true u other = u ∙ sym (lt-ltb ((i + 508) % 512) (suc k) (omega (arith, ltb-true ((i + 508) % 512) k u)))
        same_test false u other =
            u ∙ sym (le-ltb ((i + 508) % 512) (suc k) (apart k i h t (ltb-false ((i + 508) % 512) k u) other))

-- after all stores it is the new block
pub torn-all : (old b : List ℕ) → length old ≡ 512 → length b ≡ 512 → torn old b 512 ≡ b
torn-all old b l n =
    ext_get_or 0 (torn old b 512) b (torn-long old b 512 ∙ l ∙ sym n)
    (λ i h. torn-at old b 512 i l (omega arith) (omega (arith, torn-long old b 512)) ∙ rw (lt-ltb ((i + 508) % 512) 512 (omega arith)) refl)

-- ---- one store
-- a byte that is zero in the block and in what is stored over it
zero-kept : (old b : List ℕ) (s i : ℕ) → s < length old → get_or old i 0 ≡ 0 → get_or b i 0 ≡ 0 → get_or (set old s (get_or b s 0)) i 0 ≡ 0
zero-kept old b s i h o z = go (eqb s i) refl
  where
    go : (t : Bool) → eqb s i ≡ t → get_or (set old s (get_or b s 0)) i 0 ≡ 0
    go true e =
        let same = eqb-true s i e in
        ap (λ (j : ℕ). get_or (set old s (get_or b s 0)) j 0) (sym same) ∙ get_or-set_same old s (get_or b s 0) 0 h ∙ ap (λ (j : ℕ). get_or b j 0) same ∙ z
    go false e = get_or-set_other old s i (get_or b s 0) 0 (λ y. eqb-false s i e (sym y)) ∙ o

-- a block that has no number has none behind a store before the last
pub number-store : (old b : List ℕ) (j : ℕ) → length old ≡ 512 → j + 1 < 512 → number old ≡ 0 → get_or b 0 0 ≡ 0 → get_or b 1 0 ≡ 0 → get_or b 2 0 ≡ 0
    → number (set old (stored_byte j) (get_or b (stored_byte j) 0)) ≡ 0
unfolding number
number-store old b j l h z b0 b1 b2 =
    let s = stored_byte j in
    let low : s < length old = omega (arith, l) in
    let t0 = zero-kept old b s 0 low (omega (arith, z)) b0 in
    let t1 = zero-kept old b s 1 low (omega (arith, z)) b1 in
    let t2 = zero-kept old b s 2 low (omega (arith, z)) b2 in
    let o3 : get_or old 3 0 ≡ 0 = omega (arith, z) in
    let t3 = get_or-set_other old s 3 (get_or b s 0) 0 (λ e. omega (arith, h, e)) ∙ o3 in
    omega (arith, t0, t1, t2, t3)

-- before the last it has no number, where it had none
pub torn-number : (old b : List ℕ) (k : ℕ) → length old ≡ 512 → k < 512 → number old ≡ 0 → get_or b 0 0 ≡ 0 → get_or b 1 0 ≡ 0 → get_or b 2 0 ≡ 0
    → number (torn old b k) ≡ 0
torn-number old b zero l h z b0 b1 b2 = z
torn-number old b (suc k) l h z b0 b1 b2 =
    number-store (torn old b k) b k (torn-long old b k ∙ l) (omega (arith, h)) (torn-number old b k l (omega (arith, h)) z b0 b1 b2) b0 b1 b2

-- the block that is stored, and the others
module _ (b : List ℕ) (q : ℕ) where
  pub block-store : (m : List ℕ) (j : ℕ) → block_at (store_of m (start_of q) b j) q ≡ set (block_at m q) (stored_byte j) (get_or b (stored_byte j) 0)
  unfolding block_at
  block-store m j =
      let v = get_or b (stored_byte j) 0 in
      ap (take 512) (drop-set-add (start_of q) m (stored_byte j) v) ∙ take-set-lt 512 (drop (start_of q) m) (stored_byte j) v (omega arith)

  pub store_other : (m : List ℕ) (j p : ℕ) → 1 ≤ p → 1 ≤ q → (p ≡ q → ⊥) → block_at (store_of m (start_of q) b j) p ≡ block_at m p
  unfolding block_at
  store_other m j p f g ne = go (ltb p q) refl
    where
      v : ℕ
      v = get_or b (stored_byte j) 0

      go : (t : Bool) → ltb p q ≡ t → take 512 (drop (start_of p) (store_of m (start_of q) b j)) ≡ take 512 (drop (start_of p) m)
      go true u =
          let d = start_of q - start_of p + stored_byte j in
          let split : start_of q + stored_byte j ≡ start_of p + d = omega (arith, ltb-true p q u) in
          ap (λ (i : ℕ). take 512 (drop (start_of p) (set m i v))) split ∙ ap (take 512) (drop-set-add (start_of p) m d v)
          ∙ take-set-le 512 (drop (start_of p) m) d v (omega (arith, ltb-true p q u, f))
      go false u = ap (take 512) (drop-set-lt (start_of p) m (start_of q + stored_byte j) v (omega (arith, ltb-false p q u, f, g, ne)))

module _ (m b : List ℕ) (q : ℕ) where
  pub block-stored : (k : ℕ) → k ≤ 512 → block_at (stored_from m (start_of q) b k) q ≡ torn (block_at m q) b k
  block-stored zero h = refl
  block-stored (suc k) h =
      block-store b q (stored_from m (start_of q) b k) k ∙ ap (λ (l : List ℕ). set l (stored_byte k) (get_or b (stored_byte k) 0)) (block-stored k (omega arith))

  pub block-other : (p k : ℕ) → 1 ≤ p → 1 ≤ q → (p ≡ q → ⊥) → block_at (stored_from m (start_of q) b k) p ≡ block_at m p
  block-other p zero f g ne = refl
  block-other p (suc k) f g ne = store_other b q (stored_from m (start_of q) b k) k p f g ne ∙ block-other p k f g ne
