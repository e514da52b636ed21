-- The laws that the proofs cite, and the theorems that belong to no one function.
pub mod RuleLaws
pub mod HaltLaws
pub mod Determined
