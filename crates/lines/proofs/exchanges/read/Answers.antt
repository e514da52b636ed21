-- `exchanges::read` meets its contract.
use mathlib.Core.Path.{sym, ap, ◌∙◌}
use lib.ListN.{drop}
use Rattle.lines.specs.Lines.{answer_on}
use Rattle.lines.specs.declared.exchanges.Exchange.{Exchange}
use Rattle.lines.proofs.exchanges.read.Goals as goal

pub returns-in-Stock : goal.returns-in-Stock
returns-in-Stock c =
    let a = c.args in
    c.read.ensures ∙ ap (λ (e : Exchange). answer_on e (drop a.at a.line.now)) (sym c.in-Stock.is)

pub returns-in-Derivatives : goal.returns-in-Derivatives
returns-in-Derivatives c =
    let a = c.args in
    c.read-in-Derivatives.ensures ∙ ap (λ (e : Exchange). answer_on e (drop a.at a.line.now)) (sym c.in-Derivatives.is)
