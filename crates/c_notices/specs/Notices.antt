-- Notices of numbers and bytes, as format five has them.
pub use Rattle.stock_notices.specs.Notices.{notice_from}
