-- Laws of lists of numbers.
pub mod Turns
pub mod Zeros
