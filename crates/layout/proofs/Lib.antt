-- The laws that the proofs cite, and the theorems that belong to no one function.
pub mod ListLaws
pub mod CellLaws
pub mod AppendLaws
pub mod CheckLaws
pub mod PlaceLaws
pub mod PlaceSteps
pub mod WholeLaws
pub mod RawLaws
pub mod PutLaws
pub mod Determined
