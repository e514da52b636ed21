-- The definitions that the contracts cite.
pub mod Outcomes
pub mod Lent
pub mod Written
pub mod Walking
