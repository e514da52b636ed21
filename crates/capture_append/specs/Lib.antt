-- Appending to a capture: the stores of a block, one byte each, and what an append answers and leaves after any number of them.
pub mod Stores
pub mod Appending
