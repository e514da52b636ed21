-- The laws that the proofs cite, and the theorems that belong to no one function.
pub mod OutlineLaws
pub mod FormatLaws
pub mod FormatsLaws
pub mod CodecLaws
pub mod CloseLaws
pub mod OutlineSteps
pub mod PartLaws
pub mod PlaceSteps
pub mod BodyCheckLaws
pub mod MessageLaws
pub mod FigureLaws
pub mod Determined
