-- The laws that the proofs cite, and that the contract leaves no choice.
pub mod FletcherLaws
pub mod Determined
pub mod EdgesHold
