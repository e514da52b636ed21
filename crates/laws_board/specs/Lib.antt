-- What a board holds after a series of messages, as rows and as lists of numbers, and after a line.
pub mod History
pub mod Own
pub mod Kept
pub mod Lines
