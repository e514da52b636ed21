-- The starred edges hold.
use Rattle.stock_reading.proofs.EdgesHold.{edges-hold as frames-hold}
use Rattle.ledger.proofs.EdgesHold.{edges-hold as ledger-holds}
use Rattle.laws_edges.specs.Starred.{Starred}

pub starred-hold : Starred
starred-hold = record { of-frames = frames-hold; of-the-ledger = ledger-holds }
