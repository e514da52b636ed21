-- The board as lists of numbers: what they hold, and what each call says of them.
pub mod Flat
pub mod Calls
pub mod Steps
