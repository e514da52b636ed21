-- Fletcher-16 of bytes.
pub mod Fletcher
pub mod Edges
