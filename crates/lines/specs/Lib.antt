-- A line of either exchange: definitions that the contracts cite.
pub mod Lines
