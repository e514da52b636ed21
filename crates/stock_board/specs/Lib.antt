-- What the board's rows hold, and what its calls say of them.
pub mod Rows
pub mod Board
