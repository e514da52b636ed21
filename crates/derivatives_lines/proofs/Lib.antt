-- That the reading of the derivatives exchange's line is sound, and what follows for a walk over it.
pub mod LineLaws
pub mod LineTheorems
