-- What the ledger's calls tell: of sets of numbers, of the ends that a record holds, of the calls, and of a day's history.
pub mod Sets
pub mod Ends
pub mod Calls
pub mod History
pub mod Floors
pub mod Before
pub mod Edges
