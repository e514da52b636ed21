-- What a reading of an exchange's frames answers, where it says that a bad digit is, and what reading and writing promise of each other.
pub mod Reading
pub mod Places
pub mod Trips
