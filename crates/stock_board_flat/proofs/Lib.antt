-- The laws that the proofs cite, and the theorems that belong to no one function.
pub mod WholeLaws
pub mod FindLaws
pub mod CodeLaws
pub mod RowLaws
pub mod CallLaws
pub mod StoreLaws
pub mod TakeLaws
pub mod PlaceLaws
pub mod Determined
