-- The common frame over any header, its messages, and what an outline and a writing tell: definitions that the contracts cite.
pub mod Header
pub mod Writing
pub mod Codec
pub mod Figures
