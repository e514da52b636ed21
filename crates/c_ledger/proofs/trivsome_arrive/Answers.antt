-- `trivsome_arrive` meets its contract.
use mathlib.Core.Path.{◌≡◌, ap, ◌∙◌}
use lib.ListN.{length}
use Rattle.ledger.specs.Ends.{places}
use Rattle.ledger.specs.Calls.{ledger_of}
use Rattle.ledger.specs.declared.Arrival.{Arrival}
use Rattle.ledger.specs.declared.Answered.{Answered}
use Rattle.c_ledger.specs.Outcomes.{arrival_outcome}
use Rattle.ledger_arrivals.proofs.LentLaws.{lent-whole}
use borrow.Author.Rules.{rules}
use Rattle.c_ledger.proofs.trivsome_arrive.Goals as goal

pub returns : goal.returns
returns c =
    let n : length c.args.ends.now ≡ places = search (rules, c.well_formed.0) in
    let e = c.arrive_lent.ensures ∙ lent-whole (ledger_of c.args.ends.now c.args.floor c.args.given) c.args.n n in
    record {
      value = c.arrival_outcome.ensures ∙ ap (λ (a : Answered Arrival). arrival_outcome a.answer) e;
      ends_after = ap (λ (a : Answered Arrival). a.ledger.ends) e;
    }
