-- `trivsome_give_up` meets its contract.
use mathlib.Core.Path.{◌≡◌, ap, ◌∙◌}
use lib.ListN.{length}
use Rattle.ledger.specs.Ends.{places}
use Rattle.ledger.specs.Calls.{ledger_of}
use Rattle.ledger.specs.declared.Run.{Run}
use Rattle.ledger.specs.declared.Answered.{Answered}
use Rattle.c_ledger.specs.Outcomes.{run_outcome}
use Rattle.ledger_give_up.proofs.LessLaws.{lent-whole}
use borrow.Author.Rules.{rules}
use Rattle.c_ledger.proofs.trivsome_give_up.Goals as goal

pub returns : goal.returns
returns c =
    let n : length c.args.ends.now ≡ places = search (rules, c.well_formed.0) in
    let e = c.give_up_lent.ensures ∙ lent-whole (ledger_of c.args.ends.now c.args.floor.now c.args.given.now) n in
    record {
      value = c.run_outcome.ensures ∙ ap (λ (a : Answered Run). run_outcome a.answer) e;
      given_after = ap (λ (a : Answered Run). a.ledger) e;
    }
