pub mod TextLaws
pub mod Determined
