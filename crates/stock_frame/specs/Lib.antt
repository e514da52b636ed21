-- The common frame of the stock exchange, its formats and their messages: definitions that the contracts cite.
pub mod Outline
pub mod Format
pub mod Formats
pub mod Writing
pub mod Codec
pub mod Reads
pub mod Figures
