pub mod Reveal
pub mod Quotes
pub mod Before
