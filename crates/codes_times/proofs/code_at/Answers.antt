-- `rules::code_at` meets its contract.
use mathlib.Core.Path.{sym, ◌∙◌}
use native.Mathlib.Omega.{arith}
use Rattle.codes_times.proofs.RuleLaws.{six-bytes, code_in, code_out}
use Rattle.codes_times.proofs.code_at.Goals as goal

pub returns-then-s-lt6 : goal.returns-then-s-lt6
returns-then-s-lt6 c = let a = c.args in code_out a.s.now a.at (omega arith)

pub returns-then-s-at : goal.returns-then-s-at
returns-then-s-at c = let a = c.args in code_out a.s.now a.at (omega arith)

pub returns : goal.returns
returns c =
    let a = c.args in
    six-bytes a.s.now a.at (omega arith) ∙ sym (code_in a.s.now a.at (omega arith))
