-- The laws that the proofs cite, and the theorems that belong to no one function.
pub mod Lanes
pub mod Leaf
pub mod LoadLaws
pub mod XorLaws
pub mod Determined
