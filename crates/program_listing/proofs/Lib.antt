-- Theorems that belong to no one function.
pub mod ExampleHolds
