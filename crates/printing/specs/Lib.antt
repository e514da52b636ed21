-- Text in a lent buffer.
pub mod Text
pub mod Moving
