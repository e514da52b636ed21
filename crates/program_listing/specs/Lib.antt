-- What the program prints.
pub mod Listing
pub mod Example
