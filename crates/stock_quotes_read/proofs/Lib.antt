pub mod SideLaws
pub mod ReadLaws
pub mod BodyLaws
pub mod Determined
