-- `table::two_digits` meets its contract: at the place of the byte the table has what the digit rule says of it.
use borrow.Author.Rules.{rules}
use Rattle.digits.proofs.TableLaws.{table-entry}
use Rattle.digits.proofs.table.two_digits.Goals as goal

pub returns : goal.returns
returns c = table-entry c.args.b (search rules)
