-- `Entry::block` meets its contract.
use Rattle.capture_append.proofs.BuildLaws.{block-is}
use native.Mathlib.Omega.{arith}
use Rattle.capture_append.proofs.building.Entry.block.Goals as goal

pub returns : goal.returns
returns c =
    let a = c.args.self.now in
    block-is a.place a.payload.now (omega arith) (omega arith) c.filled-block.result c.checked-sums.result c.filled-block.ensures c.checked-sums.ensures
