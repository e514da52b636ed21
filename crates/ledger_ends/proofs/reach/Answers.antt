-- `reach` meets its contract.
use Prim.Native.Nat.{ℕ}
use native.Mathlib.Omega.{arith}
use mathlib.Core.Path.{refl, ap}
use mathlib.Core.List.{List}
use lib.ListN.{drop_of_length-le}
use lib.Seq.{take_all}
use Rattle.ledger_ends.specs.Looking.{found_in}
use Rattle.ledger_ends.proofs.UsedLaws.{found_take}
use Rattle.ledger_ends.proofs.reach.Goals as goal

pub returns-then-n-eq0 : goal.returns-then-n-eq0
returns-then-n-eq0 c =
    let es = c.args.ends.now in
    record {
      within = omega arith;
      zeros = rw (drop_of_length-le es {i = 129} (omega (arith, c.requires))) refl;
      found = ap (λ (t : List ℕ). found_in c.args.n t) (take_all 129 es (omega (arith, c.requires)));
    }

pub returns-else-n-eq0 : goal.returns-else-n-eq0
returns-else-n-eq0 c =
    let a = c.args in
    let used = c.used in
    record {
      within = used.ensures.0;
      zeros = used.ensures.1;
      found = found_take a.n used.result a.ends.now (omega (arith, c.if-n-eq0.false)) used.ensures.1;
    }
