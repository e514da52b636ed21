-- `Entry::checked` meets its contract.
use Prim.Native.Nat.{ℕ, ◌+◌, ◌-◌, ◌*◌, ◌/◌, ◌%◌}
use mathlib.Core.Path.{ap₂, ◌∙◌}
use lib.ListN.{length}
use Rattle.fletcher.specs.Fletcher.{sums_of}
use Rattle.capture_append.proofs.BuildLaws.{checked-sums}
use native.Mathlib.Omega.{arith}
use Rattle.capture_append.proofs.building.Entry.checked.Goals as goal

pub returns : goal.returns
returns c =
    let a = c.args.self.now in
    let x = a.payload.now in
    ap₂ (λ (f s : ℕ). sums_of ((a.place + length x / 256 + length x % 256 + f) % 255)
    ((507 * a.place + 506 * (length x / 256) + 505 * (length x % 256) + s + (504 - length x) * f) % 255)) c.from-a.ensures c.from-b.ensures
    ∙ checked-sums a.place x (omega arith) (omega arith) a.sums a.summed
