-- A capture in which no block is bad holds what is found in it; and a fresh one holds nothing.
use Prim.Native.Nat.{ℕ, zero, suc, ◌+◌, ◌-◌, ◌<◌, ◌≤◌}
use mathlib.Core.Path.{◌≡◌, refl, sym, ap, ◌∙◌}
use mathlib.Core.Bool.{Bool, true, false, cond}
use mathlib.Core.List.{List, []}
use native.Mathlib.Omega.{arith}
use borrow.Author.Tests.{lt-leb, eqb-true, eqb-false, not-false}
use lib.ListN.{length, get_or, take, drop, replicate, length-replicate}
use lib.Seq.{get_or-take, get_or-drop}
use lib.Dec.{eqb}
use Rattle.capture.specs.Blocks.{number, payload, unfinished, block_of}
use Rattle.capture.specs.Captures.{start_of, block_at, unfinished_at, first_bad, found_from, found}
use Rattle.capture.specs.Calls.{fresh}
use Rattle.capture.specs.Searches.{sound, sound_from, sound_first}
use Rattle.capture.proofs.JudgeLaws.{sound-numbered, judged-long, found-most, found_at}
use Rattle.capture_append.specs.Appending.{misfit}
use Rattle.laws_capture.specs.Cuts.{Bytes}
use Rattle.laws_capture.proofs.BlockTrip.{sound-is, payload-fits}
use Rattle.laws_capture.proofs.HoldLaws.{Holds, block-long}

-- ---- a fresh capture
abbrev zeros : ℕ → List ℕ
zeros n = replicate n 0

zeros-long : (n : ℕ) → length (zeros n) ≡ n
zeros-long n = length-replicate n 0

zero-at : (n i : ℕ) → get_or (zeros n) i 0 ≡ 0
zero-at zero i = refl
zero-at (suc n) zero = refl
zero-at (suc n) (suc i) = zero-at n i

zeros-open : (n p : ℕ) → unfinished_at (zeros n) p ≡ true
unfolding unfinished block_at number
zeros-open n p =
    let at : (i : ℕ) → i < 512 → get_or (take 512 (drop (start_of p) (zeros n))) i 0 ≡ 0 =
    λ i h. get_or-take 512 (drop (start_of p) (zeros n)) i 0 h ∙ get_or-drop (start_of p) (zeros n) i 0 ∙ zero-at n (start_of p + i) in
    rw (at 0 (omega arith), at 1 (omega arith), at 2 (omega arith), at 3 (omega arith)) refl

pub fresh_holds : Holds fresh []
fresh_holds = record {
  long = zeros-long 65536;
  few = omega arith;
  fit = λ p f t. absurd (omega (arith, f, t));
  at = λ p f t. absurd (omega (arith, f, t));
  rest = λ p f t. zeros-open 65536 p;
}

shifted : (p : ℕ) → 1 ≤ p → 1 + (p - 1) ≡ p
shifted p f = omega arith

-- ---- a good one: the sound blocks that stand first, and their payloads
module _ (m : List ℕ) where
  sound-within : (k p q : ℕ) → 1 ≤ p → p ≤ q → q < p + sound_from m k p → sound (block_at m q) q ≡ true
  sound-within zero p q o f t = absurd (omega (arith, f, t))
  sound-within (suc k) p q o f t = go (sound (block_at m p) p) refl t (sound-within k (p + 1) q (omega arith))
    where
      go : (s : Bool) → sound (block_at m p) p ≡ s → q < p + cond s (suc (sound_from m k (p + 1))) 0
          → (p + 1 ≤ q → q < p + 1 + sound_from m k (p + 1) → sound (block_at m q) q ≡ true) → sound (block_at m q) q ≡ true
      go false e t ih = absurd (omega (arith, f, t))
      go true e t ih = at (eqb p q) refl
        where
          at : (u : Bool) → eqb p q ≡ u → sound (block_at m q) q ≡ true
          at true same = ap (λ (j : ℕ). sound (block_at m j) j) (sym (eqb-true p q same)) ∙ e
          at false other = ih (omega (arith, f, eqb-false p q other)) (omega (arith, t))

  payload-within : (k p i : ℕ) → 1 ≤ p → i < sound_from m k p → get_or (found_from m k p) i [] ≡ payload (block_at m (p + i))
  payload-within zero p i o t = absurd (omega (arith, t))
  payload-within (suc k) p zero o t = go (sound (block_at m p) p) refl t
    where
      go : (s : Bool) → sound (block_at m p) p ≡ s → 0 < cond s (suc (sound_from m k (p + 1))) 0 → get_or (found_from m (suc k) p) 0 [] ≡ payload (block_at m (p + 0))
      go false e t = absurd (omega (arith, t))
      go true e t = let z : p + 0 ≡ p = omega arith in rw (z, sound-numbered m p o e) refl
  payload-within (suc k) p (suc i) o t = go (sound (block_at m p) p) refl t (payload-within k (p + 1) i (omega arith))
    where
      go : (s : Bool) → sound (block_at m p) p ≡ s → suc i < cond s (suc (sound_from m k (p + 1))) 0
          → (i < sound_from m k (p + 1) → get_or (found_from m k (p + 1)) i [] ≡ payload (block_at m (p + 1 + i)))
          → get_or (found_from m (suc k) p) (suc i) [] ≡ payload (block_at m (p + suc i))
      go false e t ih = absurd (omega (arith, t))
      go true e t ih = let z : p + suc i ≡ p + 1 + i = omega arith in rw (z, sound-numbered m p o e) (ih (omega (arith, t)))

  module _ (long : length m ≡ 65536) (bytes : Bytes m) (good : first_bad m ≡ 0) where
    n-is : length (found m) ≡ sound_from m 128 1
    unfolding sound_first
    n-is = judged-long m good

    sound-at : (p : ℕ) → 1 ≤ p → p ≤ length (found m) → sound (block_at m p) p ≡ true
    sound-at p f t = sound-within 128 1 p (omega arith) f (omega (arith, t, n-is))

    within : (p : ℕ) → 1 ≤ p → p ≤ length (found m) → p - 1 < sound_from m 128 1
    within p f t = omega (arith, f, t, n-is)

    from_first : (p : ℕ) → 1 ≤ p → get_or (found_from m 128 1) (p - 1) [] ≡ payload (block_at m (1 + (p - 1))) → get_or (found m) (p - 1) [] ≡ payload (block_at m p)
    unfolding found
    from_first p f is = let e : 1 + (p - 1) ≡ p = shifted p f in is ∙ ap (λ (j : ℕ). payload (block_at m j)) e

    payload-at : (p : ℕ) → 1 ≤ p → p ≤ length (found m) → get_or (found m) (p - 1) [] ≡ payload (block_at m p)
    payload-at p f t = from_first p f (payload-within 128 1 (p - 1) (omega arith) (within p f t))

    byte_at : (p : ℕ) → get_or (block_at m p) 5 0 < 256
    unfolding block_at
    byte_at p = rw (get_or-take 512 (drop (start_of p) m) 5 0 (omega arith), get_or-drop (start_of p) m 5 0) (bytes (start_of p + 5))

    pub good-holds : Holds m (found m)
    good-holds = record {
      long = long;
      few = found-most m good;
      fit = λ p f t. ap misfit (payload-at p f t) ∙ payload-fits (block_at m p) p (whole-at p f t) (low p t) (byte_at p) (sound-at p f t);
      at = λ p f t. sound-is (block_at m p) p (whole-at p f t) (low p t) (byte_at p) (sound-at p f t) ∙ ap (block_of p) (sym (payload-at p f t));
      rest = λ p f t. not-false (unfinished_at m p) (found_at m good p (omega (arith, f)) t ∙ lt-leb p (length (found m)) f);
    }
      where
        low : (p : ℕ) → p ≤ length (found m) → p ≤ 128
        low p t = omega (arith, t, found-most m good)

        whole-at : (p : ℕ) → 1 ≤ p → p ≤ length (found m) → length (block_at m p) ≡ 512
        whole-at p f t = block-long m p long f (low p t)
