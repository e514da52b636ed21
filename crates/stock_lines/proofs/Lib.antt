-- The laws that the proofs cite, and the theorems that belong to no one function.
pub mod LineLaws
pub mod LineTheorems
pub mod FrameLaws
pub mod FrameTheorems
pub mod Determined
