-- The entries up to this byte are put.
use Rattle.std.proofs.Common.{take}
use Rattle.digits.specs.Table.{digit_table}
use Rattle.printing.specs.Text.{Puts}
use Rattle.program_table.specs.Printed.{entries_text}
use Rattle.program_table.proofs.rows.put_table.Given as goal

abbrev pub invariant-loop-b : goal.invariant-loop-b
invariant-loop-b l = Puts (entries_text 0 (take l.b digit_table)) l.at l.initial.out l.to l.out
