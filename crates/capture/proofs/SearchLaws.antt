-- The searches, place by place, and the block at a place as a part of the capture.
use Prim.Native.Nat.{ℕ, zero, suc, ◌+◌, ◌-◌, ◌*◌, ◌<◌, ◌≤◌}
use mathlib.Core.Path.{◌≡◌, refl, sym, ap, ap₂, ◌∙◌}
use mathlib.Core.Bool.{Bool, true, false, not, cond, ◌&&◌}
use mathlib.Core.List.{List, []}
use Rattle.std.specs.Prelude.{Some, None}
use Rattle.std.specs.Simd.{first_chunks}
use native.Mathlib.Omega.{arith}
use borrow.Author.Tests.{eq-eqb, ne_eqb}
use lib.ListN.{get_or, take, drop}
use lib.Seq.{drop-drop}
use Rattle.capture.specs.Blocks.{number, unfinished, check_fits}
use Rattle.capture.specs.Captures.{block_at, numbered, first_from}
use Rattle.capture.specs.Searches.{formed, sound, sound_from, sound_first, place_in}
use Rattle.capture.proofs.BlockLaws.{formed-checked}

-- the place after one that is reached
next_place : (i : ℕ) → i < 128 → 128 - i ≡ suc (128 - (i + 1))
next_place i h = omega arith

-- a search that finds, and one that goes on
pub first-hit : (test : ℕ → Bool) (k p : ℕ) → test p ≡ true → p ≡ first_from test (suc k) p
first-hit test k p is = sym (ap (λ (t : Bool). cond t p (first_from test k (p + 1))) is)

pub first-miss : (test : ℕ → Bool) (k p : ℕ) → test p ≡ false → first_from test k (p + 1) ≡ first_from test (suc k) p
first-miss test k p is = sym (ap (λ (t : Bool). cond t p (first_from test k (p + 1))) is)

-- the block behind so many others is one of the chunks of a capture
pub chunk_at : (k : ℕ) (m : List ℕ) (i : ℕ) → i < k → get_or (first_chunks 512 k m) i [] ≡ take 512 (drop (512 * i) m)
chunk_at zero m i h = absurd (omega arith)
chunk_at (suc k) m zero h = refl
chunk_at (suc k) m (suc i) h =
    let e : 512 + 512 * i ≡ 512 * suc i = omega arith in
    chunk_at k (drop 512 m) i (omega arith) ∙ ap (take 512) (drop-drop (512 * i) 512 m ∙ ap (λ (j : ℕ). drop j m) e)

module _ (m : List ℕ) (i : ℕ) where
  pub chunk-block : i < 128 → get_or (first_chunks 512 128 m) i [] ≡ block_at m (i + 1)
  unfolding block_at
  chunk-block h = let f : i ≡ i + 1 - 1 = omega arith in chunk_at 128 m i h ∙ ap (λ (j : ℕ). take 512 (drop (512 * j) m)) f

  -- a numbered block is looked for
  module _ (h : i < 128) (r : ℕ) (is : r ≡ number (block_at m (i + 1))) where
    pub found-numbered : (r ≡ 0 → ⊥) → i + 1 ≡ first_from (numbered m) (128 - i) (i + 1)
    unfolding unfinished
    found-numbered ne =
        rw (next_place i h) (first-hit (numbered m) (128 - (i + 1)) (i + 1) (ap not (ne_eqb (number (block_at m (i + 1))) 0 (λ e. ne (is ∙ e)))))

    pub past-unfinished : r ≡ 0 → first_from (numbered m) (128 - (i + 1)) (i + 1 + 1) ≡ first_from (numbered m) (128 - i) (i + 1)
    unfolding unfinished
    past-unfinished e =
        rw (next_place i h) (first-miss (numbered m) (128 - (i + 1)) (i + 1) (ap not (eq-eqb (number (block_at m (i + 1))) 0 (sym is ∙ e))))

  -- sound blocks are counted
  module _ (h : i < 128) (r : Bool) (is : r ≡ formed (block_at m (i + 1)) (i + 1)) where
    judged : (t : Bool) → check_fits (block_at m (i + 1)) ≡ t → sound (block_at m (i + 1)) (i + 1) ≡ (r && t)
    judged t e = formed-checked (block_at m (i + 1)) (i + 1) ∙ ap₂ ◌&&◌ (sym is) e

    counted : (t : Bool) → sound (block_at m (i + 1)) (i + 1) ≡ t → sound_from m (128 - i) (i + 1) ≡ cond t (suc (sound_from m (128 - (i + 1)) (i + 1 + 1))) 0
    counted t e = rw (next_place i h) (ap (λ (u : Bool). cond u (suc (sound_from m (128 - (i + 1)) (i + 1 + 1))) 0) e)

    pub at-unformed : r ≡ false → i ≡ i + sound_from m (128 - i) (i + 1)
    at-unformed e = omega (arith, counted false (judged (check_fits (block_at m (i + 1))) refl ∙ ap (λ (u : Bool). u && check_fits (block_at m (i + 1))) e))

    -- and the check
    module _ (q : Bool) (fits : q ≡ check_fits (block_at m (i + 1))) where
      pub at-unsound : r ≡ true → q ≡ false → i ≡ i + sound_from m (128 - i) (i + 1)
      at-unsound e u = omega (arith, counted false (judged q (sym fits) ∙ ap₂ ◌&&◌ e u))

      pub past-sound : r ≡ true → q ≡ true → i + 1 + sound_from m (128 - (i + 1)) (i + 1 + 1) ≡ i + sound_from m (128 - i) (i + 1)
      past-sound e u = omega (arith, counted true (judged q (sym fits) ∙ ap₂ ◌&&◌ e u))

-- at the ends
pub none-behind : (m : List ℕ) (i p : ℕ) → 128 ≤ i → first_from (numbered m) (128 - i) (i + 1) ≡ p → None ≡ place_in p
none-behind m i p h is =
    let e : 128 - i ≡ 0 = omega arith in
    let z : 0 ≡ first_from (numbered m) (128 - i) (i + 1) = rw e refl in
    ap place_in (z ∙ is)

pub some-place : (p q : ℕ) → p ≡ q → (p ≡ 0 → ⊥) → Some p ≡ place_in q
some-place p q is ne = sym (ap place_in (sym is) ∙ ap (λ (t : Bool). cond t None (Some p)) (ne_eqb p 0 ne))

pub all_sound : (m : List ℕ) (i : ℕ) → 128 ≤ i → i ≡ i + sound_from m (128 - i) (i + 1)
all_sound m i h = let e : 128 - i ≡ 0 = omega arith in rw e (omega arith)

pub search-starts : (m : List ℕ) → 0 + sound_from m (128 - 0) (0 + 1) ≡ sound_first m
unfolding sound_first
search-starts m = omega arith
