-- One append to any capture in which no block is bad, cut short after any number of its stores.
use Rattle.std.specs.Prelude.{Ok, ℕ, ◌<◌, ◌≤◌, ◌≡◌, List, get_or}
use Rattle.capture.specs.Blocks.{block_of}
use Rattle.capture.specs.Captures.{block_at, first_bad, found}
use Rattle.capture_append.specs.Stores.{stores}
use Rattle.capture_append.specs.Appending.{taken_of, taken_bytes}
use Rattle.laws_capture.specs.Series.{kept_with}

-- memory is bytes
abbrev pub Bytes : List ℕ → Type 0
Bytes m = (i : ℕ) → get_or m i 0 < 256

pub record CutTells (m x : List ℕ) (k : ℕ) : Type 0 where
  -- nothing that was found is lost, and the payload comes behind it exactly if it fits, there is room and all stores were done
  pub finds : found (taken_bytes m x k) ≡ kept_with (found m) (record { payload = x; done = k })
  pub no-bad : first_bad (taken_bytes m x k) ≡ 0
  -- where they were not all done, the next append is answered as if this one had not begun
  pub next : k < stores → (y : List ℕ) → taken_of (taken_bytes m x k) y ≡ taken_of m y
  -- where they were, all bytes of the block are those of its payload, whatever stood there
  pub block : stores ≤ k → (p : ℕ) → taken_of m x ≡ Ok p → block_at (taken_bytes m x k) p ≡ block_of p x
