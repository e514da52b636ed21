-- What a reading may say, the steps of reading it, what reading and writing promise of each other, and the starred edges.
pub mod Reading
pub mod Before
pub mod Places
pub mod Steps
pub mod Trips
pub mod Edges
