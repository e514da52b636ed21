use Rattle.std.proofs.Common.{[], ◌∷◌}
use Rattle.printing.specs.Text.{decimal}
use Rattle.printing.proofs.TextLaws.{puts_then}
use Rattle.printing.proofs.put_field.Goals as goal

pub returns : goal.returns
returns c =
    puts_then (decimal c.args.n) (c.args.end ∷ []) c.args.at c.put_number-to.result c.put.result c.args.out.now c.put_number-to.new.out c.put.new.out
    c.put_number-to.ensures c.put.ensures
