-- What is promised of a capture: after any series of appends that were cut short anywhere, after one append, after its
-- stores in any order, and which captures answer 33.
pub mod Series
pub mod Cuts
pub mod Exact
pub mod Orders
pub mod Values
