-- `arrive` meets its contract.
use mathlib.Core.Path.{◌≡◌, ◌∙◌}
use lib.ListN.{length}
use Rattle.ledger.specs.Ends.{places}
use Rattle.ledger_arrivals.proofs.LentLaws.{lent-whole}
use borrow.Author.Rules.{rules}
use Rattle.ledger_arrivals.proofs.arrive.Goals as goal

pub returns : goal.returns
returns c =
    let a = c.args in
    let whole : length a.ledger.ends ≡ places = search rules in
    c.arrive_lent-answer.ensures ∙ lent-whole a.ledger a.n whole
