-- The laws of a walk, for every reading that is sound.
pub mod WalkLaws
pub mod MoreLaws
pub mod FigureLaws
pub mod RowLaws
pub mod MapLaws
pub mod TalliedLaws
pub mod AnswerLaws
pub mod ToldSteps
pub mod ToldLaws
pub mod NextLaws
pub mod NoiseLaws
pub mod ListedLaws
pub mod StepLaws
pub mod TurnLaws
pub mod PromiseLaws
pub mod Determined
