-- Layouts, where a bad digit of theirs is, checks in order, and bytes put as they are: definitions that the contracts cite.
pub mod Cells
pub mod Places
pub mod Checks
pub mod Bytes
