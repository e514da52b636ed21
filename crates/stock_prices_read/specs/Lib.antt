-- What the functions of reading hand on to each other.
pub mod Steps
