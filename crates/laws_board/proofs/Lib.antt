-- The laws and theorems of the board.
pub mod CodeLaws
pub mod ListedLaws
pub mod Series
pub mod Told
pub mod RowBack
pub mod KeptSeries
pub mod HeldLaws
pub mod LineBoards
pub mod OwnLaws
