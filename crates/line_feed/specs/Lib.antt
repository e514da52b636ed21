-- What a program holds of a line that it reads.
pub mod Beginning
