-- The laws that the proofs cite, and the theorems that belong to no one function.
pub mod ListLaws
pub mod LentLaws
pub mod WriteLaws
pub mod OutcomeLaws
pub mod MoveLaws
pub mod Determined
