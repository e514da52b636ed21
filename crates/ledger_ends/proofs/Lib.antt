-- The laws that the proofs cite, and the theorems that belong to no one function.
pub mod LoopLaws
pub mod UsedLaws
pub mod SeenLaws
pub mod Determined
