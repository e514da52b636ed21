-- The walk over any reading, its tally and its rows.
pub mod Walk
pub mod Sound
pub mod Answers
pub mod Tally
pub mod Rows
pub mod Pieces
pub mod Told
pub mod Listed
pub mod Noise
pub mod Lines
pub mod Promises
