-- `recording::stand_alone` meets its contract.
use Rattle.ledger_arrivals.proofs.TakeLaws.{taken-full, room-for-two, taken-opens}
use Rattle.ledger_arrivals.proofs.recording.stand_alone.Goals as goal

pub returns-then-ends-ne0 : goal.returns-then-ends-ne0
returns-then-ends-ne0 c = let both = taken-full c.args.at c.args.before c.args.last c.args.ends.now c.requires c.if-ends-ne0.true in record { value = both.0; ends_after = both.1 }

pub open-requires : goal.open-requires
open-requires c = room-for-two c.args.at c.args.before c.args.last c.args.ends.now c.requires c.if-ends-ne0.false

pub returns : goal.returns
returns c =
    let both = taken-opens c.args.at c.args.before c.args.last c.args.ends.now c.requires c.if-ends-ne0.false c.«open».new.ends c.«open».ensures in record { value = both.0; ends_after = both.1 }
