-- Which captures answer 33: exactly those that no series of appends leaves, but for what stands in unfinished blocks.
use Rattle.std.specs.Prelude.{ℕ, ◌<◌, ◌≤◌, ◌≡◌, true, false, cond, List, [], length}
use Rattle.capture.specs.Blocks.{unfinished}
use Rattle.capture.specs.Captures.{places, block_at, unfinished_at, bad, first_bad, found}
use Rattle.capture.specs.Calls.{held_of, part_of}
use Rattle.capture_append.specs.Appending.{taken_of}
use Rattle.laws_capture.specs.Series.{Attempt, after}

-- the first bad block
pub record FirstBadAt (m : List ℕ) (p : ℕ) : Type 0 where
  pub from : 1 ≤ p
  pub to : p ≤ places
  pub is-bad : bad m p ≡ true
  pub none_before : (q : ℕ) → 1 ≤ q → q < p → bad m q ≡ false

-- what a block shows: nothing if it is unfinished
abbrev pub shown : List ℕ → List ℕ
shown b = cond (unfinished b) [] b

-- two captures show the same
abbrev pub Alike : List ℕ → List ℕ → Type 0
Alike m n = (p : ℕ) → 1 ≤ p → p ≤ places → shown (block_at m p) ≡ shown (block_at n p)

-- a series leaves a capture that shows the same
pub record Left (m : List ℕ) : Type 0 where
  pub series : List Attempt
  pub alike : Alike (after series) m

-- memory that differs from other memory only in one block, which is unfinished in both
pub record TornAt (m n : List ℕ) (q : ℕ) : Type 0 where
  pub long : length n ≡ length m
  pub others : (p : ℕ) → 1 ≤ p → (p ≡ q → ⊥) → block_at m p ≡ block_at n p
  pub was-open : unfinished_at m q ≡ true
  pub is_open : unfinished_at n q ≡ true

-- captures that show the same are answered the same
pub record SameTold (m n : List ℕ) : Type 0 where
  pub bad-same : first_bad m ≡ first_bad n
  pub found-same : found m ≡ found n
  pub held_same : held_of m ≡ held_of n
  pub taken-same : (x : List ℕ) → taken_of m x ≡ taken_of n x
  pub part_same : (p : ℕ) → part_of m p ≡ part_of n p
