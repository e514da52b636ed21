-- The laws that the proofs cite, and the theorems that belong to no one function.
pub mod Bools
pub mod TestLaws
pub mod Powers
pub mod PackedLaws
pub mod Values
pub mod Places
pub mod Within
pub mod ReadSteps
pub mod TableLaws
pub mod WriteSteps
pub mod PutLaws
pub mod FieldLaws
pub mod HalfLaws
pub mod Determined
