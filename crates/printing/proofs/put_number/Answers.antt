use Rattle.std.proofs.Common.{◌-◌, arith}
use borrow.Author.Tests.{le-leb}
use Rattle.printing.proofs.TextLaws.{puts-tail}
use Rattle.printing.proofs.put_number.Goals as goal

pub returns-then-n-le9 : goal.returns-then-n-le9
returns-then-n-le9 c = rw (le-leb c.args.n 9 c.if-n-le9.true) c.put.ensures

pub returns : goal.returns
returns c =
    let first = c.spell-first in
    puts-tail c.args.n (20 - first.result) first.result c.args.at c.put_all.result first.new.digits c.args.out.now c.put_all.new.out
    (omega (arith, first.ensures.0)) first.ensures.2 c.put_all.ensures
