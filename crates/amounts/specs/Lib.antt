-- Prices, quantities and index values: definitions that the contracts cite.
pub mod Amounts
