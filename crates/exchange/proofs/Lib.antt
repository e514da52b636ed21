-- The laws of a reading, over any exchange: what it answers, that more bytes take no answer back, both round trips, where a bad digit is.
pub mod NumberLaws
pub mod ReadingLaws
pub mod SoundLaws
pub mod TripLaws
pub mod PlaceLaws
