-- Bytes put into a list.
use Prim.Native.Nat.{ℕ, ◌+◌, ◌≤◌}
use mathlib.Core.Path.{◌≡◌, ap}
use mathlib.Core.Bool.{Bool, cond}
use mathlib.Core.List.{List}
use lib.ListN.{length}
use lib.Seq.{sets}
use borrow.Author.Tests.{le-leb}
use Rattle.layout.specs.Bytes.{bytes_over}

-- bytes that fit a list are put
pub bytes-in : (l vs : List ℕ) (at : ℕ) → at + length vs ≤ length l → bytes_over vs l at ≡ sets l at vs
bytes-in l vs at h = ap (λ (t : Bool). cond t (sets l at vs) l) (le-leb (at + length vs) (length l) h)
