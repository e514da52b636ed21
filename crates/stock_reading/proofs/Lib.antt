-- The laws that the proofs cite, and the theorems that belong to no one function.
pub mod Exchange
pub mod HeaderLaws
pub mod ReadingLaws
pub mod PlaceLaws
pub mod Trips
pub mod PlaceTheorems
pub mod AsBefore
pub mod EdgesHold
pub mod MoreBytes
pub mod Determined
