use Rattle.std.proofs.Common.{ℕ, [], ◌∷◌, ◌++◌, subst}
use Rattle.printing.specs.Text.{Puts}
use Rattle.printing.proofs.TextLaws.{puts_then}
use Rattle.program_table.specs.Printed.{aligned}
use Rattle.program_table.proofs.rows.put_entry.Goals as goal

pub returns : goal.returns
returns c =
    let a = c.args in
    let one = c.put_aligned-to in
    let byte = c.parting_of in
    let last = c.put in
    subst
    (λ (x : ℕ). Puts (aligned a.entry ++ (x ∷ [])) a.at a.out.now last.result last.new.out)
    byte.ensures
    (puts_then (aligned a.entry) (byte.result ∷ []) a.at one.result last.result a.out.now one.new.out last.new.out one.ensures last.ensures)
