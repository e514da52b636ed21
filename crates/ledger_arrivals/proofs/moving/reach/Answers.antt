-- `moving::reach` meets its contract: behind an end that is 0 all are.
use Prim.Native.Nat.{◌+◌}
use native.Mathlib.Omega.{arith}
use mathlib.Core.Path.{sym}
use lib.ListN.{drop_of_length-le}
use Rattle.ledger.specs.Calls.{most_number}
use Rattle.ledger_arrivals.proofs.MoveLaws.{zeros-stay}
use Rattle.ledger_arrivals.proofs.moving.reach.Goals as goal

pub returns-then-ends-eq0 : goal.returns-then-ends-eq0
returns-then-ends-eq0 c = (omega arith, omega arith, zeros-stay (most_number + 1) 17 c.args.ends.now c.requires.falls c.requires.whole (omega arith) c.if-ends-eq0.true)

pub returns-then-ends-eq0-2 : goal.returns-then-ends-eq0-2
returns-then-ends-eq0-2 c = (omega arith, omega arith, zeros-stay (most_number + 1) 65 c.args.ends.now c.requires.falls c.requires.whole (omega arith) c.if-ends-eq0-2.true)

pub returns : goal.returns
returns c =
    let es = c.args.ends.now in
    (omega arith, omega arith, sym (drop_of_length-le es {i = 129} (omega arith)))
