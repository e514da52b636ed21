-- The answers by their answer numbers: definitions that the contracts cite.
pub mod Answers
pub mod Before
