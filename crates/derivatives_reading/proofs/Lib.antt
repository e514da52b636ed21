-- The laws that the proofs cite, and the theorems that belong to no one function.
pub mod ReadingLaws
pub mod Theorems
pub mod EdgesHold
pub mod Determined
