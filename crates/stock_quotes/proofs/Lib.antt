pub mod RevealLaws
pub mod TimeLaws
pub mod PairLaws
pub mod QuoteLaws
pub mod BeforeLaws
pub mod Determined
