-- `put_all` meets its contract: what finds room is put.
use native.Mathlib.Omega.{arith}
use Rattle.printing.proofs.TextLaws.{puts-past, puts-part}
use Rattle.printing.proofs.put_all.Goals as goal

pub returns-then-out-at : goal.returns-then-out-at
returns-then-out-at c = puts-past c.args.text.now c.args.at c.args.out.now c.if-out-at.true

pub returns : goal.returns
returns c =
    let a = c.args in
    puts-part a.text.now a.at c.min-n.result _ a.out.now c.copy_from_slice.new.self c.if-out-at.false c.min-n.ensures (omega arith) c.copy_from_slice.ensures.after
