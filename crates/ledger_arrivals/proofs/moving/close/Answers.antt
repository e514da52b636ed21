-- `moving::close` meets its contract.
use native.Mathlib.Omega.{arith}
use mathlib.Core.Path.{ap, ◌∙◌}
use mathlib.Core.List.{List}
use Prim.Native.Nat.{ℕ}
use lib.ListN.{set}
use Rattle.ledger_arrivals.proofs.MoveLaws.{close-ends}
use Rattle.ledger_arrivals.proofs.moving.close.Goals as goal

pub returns : goal.returns
returns c =
    let a = c.args in
    let to = c.reach-to in
    ap (λ (e : List ℕ). set (set e 127 0) 128 0) c.copy_within.ensures.after
    ∙ close-ends a.ends.now a.at to.result (omega (arith, c.requires.whole)) (omega (arith, to.ensures.0)) (omega (arith, to.ensures.1)) to.ensures.2
