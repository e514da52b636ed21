-- `give_up` meets its contract.
use mathlib.Core.Path.{◌≡◌, ◌∙◌}
use lib.ListN.{length}
use Rattle.ledger.specs.Ends.{places}
use Rattle.ledger_give_up.proofs.LessLaws.{lent-whole}
use borrow.Author.Rules.{rules}
use Rattle.ledger_give_up.proofs.give_up.Goals as goal

pub returns : goal.returns
returns c =
    let a = c.args in
    let whole : length a.ledger.ends ≡ places = search rules in
    c.give_up_lent-answer.ensures ∙ lent-whole a.ledger whole
