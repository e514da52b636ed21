-- The laws that the proofs cite, and the theorems that belong to no one function.
pub mod IndexLaws
pub mod ReadSteps
pub mod MessageLaws
pub mod WriteSteps
pub mod FigureLaws
pub mod Determined
