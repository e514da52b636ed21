-- The laws that the proofs cite, and the theorems that belong to no one function.
pub mod EveryLaws
pub mod RuleLaws
pub mod RoomLaws
pub mod Determined
