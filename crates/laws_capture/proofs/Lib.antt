-- The laws of a capture and their proofs.
pub mod BlockTrip
pub mod TornLaws
pub mod HoldLaws
pub mod GoodLaws
pub mod SeriesTells
pub mod CutTells
pub mod ExactLaws
pub mod OrderTells
pub mod ReturnsValues
