-- The derivatives exchange's common frame of 2015: definitions that the contracts cite.
pub mod Outline
pub mod Steps
pub mod Closing
pub mod Figures
