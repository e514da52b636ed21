pub mod PartLaws
pub mod LegalLaws
pub mod WriteLaws
pub mod Determined
