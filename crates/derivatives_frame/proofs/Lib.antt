-- The laws that the proofs cite, and the theorems that belong to no one function.
pub mod HeaderHolds
pub mod PlaceSteps
pub mod HeadSteps
pub mod OutlineSteps
pub mod PartLaws
pub mod CloseLaws
pub mod FigureLaws
pub mod Determined
