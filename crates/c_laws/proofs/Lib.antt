-- What the calls for C and Rust tell: nothing is lost at the boundary.
pub mod OutcomeTheorems
pub mod WritingTheorems
pub mod MoveTheorems
pub mod LedgerTheorems
pub mod RecordTheorems
