-- Bytes as one number, what their digits hold, and their exclusive-or: definitions that the contracts cite.
pub mod Words
pub mod Xor
pub mod Blocks
pub mod Steps
