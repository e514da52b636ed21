-- `settled_in` meets its contract.
use Rattle.std.proofs.Common.{◌≡◌, ◌∙◌, ◌-◌, reverse, rules}
use Rattle.std.specs.List.{fold}
use Rattle.ledger_ends.proofs.LoopLaws.{folded}
use Rattle.ledger_ends.proofs.settled_in.Goals as goal

pub returns : goal.returns
returns c =
    let ends = c.args.ends.now in
    let found : c.fold.result ≡ fold (λ settled e. e - settled) 0 (reverse ends) = search rules in
    found ∙ folded ends
