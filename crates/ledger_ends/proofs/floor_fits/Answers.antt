-- `floor_fits` meets its contract: a law for each answer.
use Prim.Native.Nat.{◌%◌}
use native.Mathlib.Omega.{arith}
use mathlib.Core.Path.{◌∙◌}
use borrow.Author.Tests.{ne_eqb}
use Rattle.ledger.proofs.EndLaws.{from-length}
use Rattle.ledger_ends.proofs.SeenLaws.{none-given, too-many-given, lowest-missing, lowest-end}
use Rattle.ledger_ends.proofs.floor_fits.Goals as goal

pub returns-then-given-eq0 : goal.returns-then-given-eq0
returns-then-given-eq0 c =
    let a = c.args in
    none-given a.floor a.given a.ends.now c.if-given-eq0.true

pub returns-then-floor-given : goal.returns-then-floor-given
returns-then-floor-given c =
    let a = c.args in
    too-many-given a.floor a.given a.ends.now (omega (arith, c.if-given-eq0.false)) c.if-floor-given.true

pub offset_bounds-ends-count : goal.offset_bounds-ends-count
offset_bounds-ends-count c = omega (arith, c.in_use-count.ensures, from-length 1 c.args.ends.now, c.requires.few)

pub bounds-ends-count : goal.bounds-ends-count
bounds-ends-count c = omega (arith, c.in_use-count.ensures, from-length 1 c.args.ends.now, c.if-count-eq1.true)

pub returns-then-count-eq1 : goal.returns-then-count-eq1
returns-then-count-eq1 c =
    let count = c.in_use-count in
    lowest-end c.args.floor c.args.given c.args.ends.now (omega (arith, c.if-given-eq0.false)) c.requires count.result count.ensures
    c.if-floor-given.false c.if-count-eq1.true

pub returns-else-count-eq1 : goal.returns-else-count-eq1
returns-else-count-eq1 c =
    let count = c.in_use-count in
    ne_eqb (count.result % 2) 1 c.if-count-eq1.false
    ∙ lowest-missing c.args.floor c.args.given c.args.ends.now (omega (arith, c.if-given-eq0.false)) c.requires count.result count.ensures
    (omega (arith, c.if-count-eq1.false))
