-- `recording::shorten` meets its contract.
use Rattle.ledger_arrivals.proofs.TakeLaws.{taken-closes, taken-lowers}
use Rattle.ledger_arrivals.proofs.recording.shorten.Goals as goal

pub returns-then-ends-at : goal.returns-then-ends-at
returns-then-ends-at c = (taken-closes c.args.at c.args.before c.args.ends.now c.requires c.close.new.ends c.if-ends-at.true c.close.ensures).1

pub returns-else-ends-at : goal.returns-else-ends-at
returns-else-ends-at c = (taken-lowers c.args.at c.args.before c.args.ends.now c.requires c.if-ends-at.false).1
