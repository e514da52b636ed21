-- The laws that the proofs cite, and the theorems that belong to no one function.
pub mod BlockLaws
pub mod SearchLaws
pub mod JudgeLaws
pub mod CallLaws
pub mod Determined
