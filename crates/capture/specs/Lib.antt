-- A capture of 128 blocks: what a block holds, which blocks are finished and which are bad, and what the calls that read it answer.
pub mod Blocks
pub mod Captures
pub mod Calls
pub mod Searches
