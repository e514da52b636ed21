-- The laws that the proofs cite, and the theorems that belong to no one function.
pub mod SlotReads
pub mod SlotsRead
pub mod ReadLaws
pub mod Determined
