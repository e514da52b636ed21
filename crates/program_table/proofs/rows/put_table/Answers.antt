use Rattle.std.proofs.Common.{ℕ, List, ap, arith, get_or}
use Rattle.digits.specs.Table.{digit_table}
use Rattle.printing.proofs.TextLaws.{puts_none}
use Rattle.program_table.proofs.PrintedLaws.{next-put, all-put}
use Rattle.program_table.proofs.rows.put_table.Goals as goal

pub loop-b-init : goal.loop-b-init
loop-b-init c = puts_none digit_table c.args.at c.args.out.now

pub loop-b-preserved : goal.loop-b-preserved
loop-b-preserved c =
    let l = c.loop-b in
    let p = c.put_entry-to in
    let looked = ap (λ (t : List ℕ). get_or t l.b 0) c.table-entries.ensures in
    next-put digit_table l.b _ c.args.at l.to p.result c.args.out.now l.out p.new.out (omega arith) looked l.invariant p.ensures

pub returns : goal.returns
returns c = let l = c.loop-b in all-put digit_table l.b c.args.at l.to c.args.out.now l.out (omega arith) l.invariant
