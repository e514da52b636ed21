-- The laws that the proofs cite, and the theorems that belong to no one function.
pub mod Determined
