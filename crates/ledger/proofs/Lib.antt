-- The laws that the proofs cite, and the theorems that belong to no one function.
pub mod EndLaws
pub mod SetLaws
pub mod TrueLaws
pub mod TurnLaws
pub mod FloorLaws
pub mod SettledLaws
pub mod RunLaws
pub mod ArriveLaws
pub mod GiveUpLaws
pub mod Series
pub mod GivingUp
pub mod Twenty
pub mod FloorsLeft
pub mod AsBefore
pub mod Values
pub mod EdgesHold
pub mod Determined
