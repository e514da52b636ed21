-- When a field's bytes lie within the bytes it is read from or written to.
use Prim.Native.Nat.{ℕ, ◌+◌, ◌≤◌, ◌<◌}
use mathlib.Core.Bool.{true, false}
use mathlib.Core.List.{List}
use mathlib.Core.Path.{◌≡◌}
use borrow.Author.Tests.{le-leb, lt-leb}
use lib.ListN.{length}
use Rattle.digits.specs.Fields.{within}

-- wider than nine bytes
pub within-wide : (s : List ℕ) (at n : ℕ) → 9 < n → within s at n ≡ false
within-wide s at n h = rw (lt-leb n 9)

-- past the end
pub within-past : (s : List ℕ) (at n : ℕ) → n ≤ 9 → length s < at + n → within s at n ≡ false
within-past s at n w h = rw (le-leb n 9, lt-leb (at + n) (length s))

-- neither
pub within_all : (s : List ℕ) (at n : ℕ) → n ≤ 9 → at + n ≤ length s → within s at n ≡ true
within_all s at n w h = rw (le-leb n 9, le-leb (at + n) (length s))
