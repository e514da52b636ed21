-- What the functions of an arrival hand on to each other; the answers themselves are in ledger/specs.
pub mod Steps
