-- What a look over the ends finds.
pub mod Looking
