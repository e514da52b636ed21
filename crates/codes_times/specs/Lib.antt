-- Codes and times: definitions that the contracts cite.
pub mod Times
