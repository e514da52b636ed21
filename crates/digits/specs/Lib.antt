-- Packed digits, their table, a field of them read and written, and where a bad one is: definitions that the contracts cite.
pub mod Tests
pub mod Packed
pub mod Table
pub mod Fields
pub mod Lent
pub mod Halves
