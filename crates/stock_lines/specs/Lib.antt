-- The walk over the stock exchange's line.
pub mod Lines
pub mod Steps
