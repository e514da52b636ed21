-- `moving::open` meets its contract.
use native.Mathlib.Omega.{arith}
use mathlib.Core.Path.{ap, ◌∙◌}
use mathlib.Core.List.{List}
use Prim.Native.Nat.{ℕ, ◌+◌}
use lib.ListN.{set}
use Rattle.ledger_arrivals.proofs.MoveLaws.{open-ends}
use Rattle.ledger_arrivals.proofs.moving.open.Goals as goal

pub returns : goal.returns
returns c =
    let a = c.args in
    let to = c.reach-to in
    ap (λ (e : List ℕ). set (set e a.at a.last) (a.at + 1) a.before) c.copy_within.ensures.after
    ∙ open-ends a.ends.now a.at to.result a.last a.before (omega (arith, c.requires.whole)) (omega (arith, to.ensures.0)) (omega (arith, to.ensures.1)) to.ensures.2
