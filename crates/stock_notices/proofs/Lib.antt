-- The laws that the proofs cite, and the theorems that belong to no one function.
pub mod RawLaws
pub mod NoticeLaws
pub mod Determined
