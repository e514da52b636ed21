-- The starred edges of the owner's paper as one statement: those of frames, and that of the ledger.
use Rattle.stock_reading.specs.Edges.{Edges as Frames}
use Rattle.ledger.specs.Edges.{Edges as Ledger}

pub record Starred : Type 0 where
  pub of-frames : Frames
  pub of-the-ledger : Ledger
