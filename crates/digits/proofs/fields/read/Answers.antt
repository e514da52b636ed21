-- `fields::read` meets its contract: reading by the table is reading by the rule.
use Rattle.digits.proofs.TableLaws.{read-by-table}
use Rattle.digits.proofs.fields.read.Goals as goal

pub returns : goal.returns
returns c =
    let a = c.args in
    read-by-table _ _ a.s.now a.at a.n c.read_by.ensures c.table-table.ensures
