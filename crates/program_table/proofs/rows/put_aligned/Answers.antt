use Rattle.std.proofs.Common.{◌++◌}
use Rattle.std.specs.Prelude.{ltb}
use Rattle.printing.specs.Text.{decimal}
use Rattle.printing.proofs.TextLaws.{puts_then}
use Rattle.program_table.specs.Printed.{space_if}
use Rattle.program_table.proofs.rows.put_aligned.Goals as goal

pub returns : goal.returns
returns c =
    let a = c.args in
    let one = c.put_space_if-to in
    let two = c.put_space_if-to-2 in
    let last = c.put_number in
    let rest =
    puts_then (space_if (ltb a.n 10)) (decimal a.n) one.result two.result last.result one.new.out two.new.out last.new.out two.ensures last.ensures in
    puts_then (space_if (ltb a.n 100)) (space_if (ltb a.n 10) ++ decimal a.n) a.at one.result last.result a.out.now one.new.out last.new.out one.ensures rest
