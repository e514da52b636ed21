pub mod Reading
pub mod Edges
pub mod Told
