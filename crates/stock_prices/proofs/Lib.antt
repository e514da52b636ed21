-- The laws that the proofs cite, and the theorems that belong to no one function.
pub mod AndLaws
pub mod PriceLaws
pub mod Shapes
pub mod RuleLaws
pub mod Determined
