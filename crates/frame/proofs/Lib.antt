-- The laws of the common frame, over any header: what is written is read, what is read was written, and what more bytes change.
pub mod SealLaws
pub mod HeaderLaws
pub mod CodecLaws
pub mod CloseLaws
pub mod WriteLaws
pub mod OutlineSteps
pub mod LineSteps
pub mod MessageLaws
pub mod FigureLaws
