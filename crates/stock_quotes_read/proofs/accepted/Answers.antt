-- `accepted` meets its contract.
use mathlib.Core.Path.{◌∙◌}
use native.Mathlib.Omega.{arith}
use Rattle.codes_times.proofs.RuleLaws.{code_in}
use Rattle.stock_quotes_read.proofs.accepted.Goals as goal

pub returns : goal.returns
returns c = rw (c.code_at-code.ensures ∙ code_in c.args.body.now 0 (omega arith), c.from_byte.ensures)
