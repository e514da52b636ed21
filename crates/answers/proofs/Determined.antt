-- The public contracts leave no choice: any two results that they allow are equal.
use mathlib.Core.Path.{◌≡◌, sym, ◌∙◌}
use contract.Lifetimes
use borrow.Fn.World
use borrow.Fn.Kinds as kinds
use denote.Triple.Clauses
use Rattle.answers.specs.contracts.Answer.number as answer-number
use Rattle.answers.proofs.Answer.number.Kinds as answer-number-kinds
use Rattle.answers.proofs.Answer.number.Reads as answer-number-reads
use Rattle.answers.specs.contracts.Answer.length as answer-length
use Rattle.answers.proofs.Answer.length.Kinds as answer-length-kinds
use Rattle.answers.proofs.Answer.length.Reads as answer-length-reads
use Rattle.answers.specs.contracts.Answer.place as answer-place
use Rattle.answers.proofs.Answer.place.Kinds as answer-place-kinds
use Rattle.answers.proofs.Answer.place.Reads as answer-place-reads

-- what `Answer::number` gives
pub determined-Answer-number : (κs : Lifetimes.Lfts 0) (a : World.ArgsD answer-number.signature κs) (r₁ r₂ : World.ResD answer-number.signature κs)
    (s₁ s₂ : Clauses.AtExit (kinds.ended_of 0 answer-number-kinds.ps answer-number-kinds.r) κs) → answer-number-reads.Post κs a r₁ s₁ → answer-number-reads.Post κs a r₂ s₂
    → r₁ ≡ r₂
determined-Answer-number κs a r₁ r₂ s₁ s₂ p q = p ∙ sym q

-- what `Answer::length` gives
pub determined-Answer-length : (κs : Lifetimes.Lfts 0) (a : World.ArgsD answer-length.signature κs) (r₁ r₂ : World.ResD answer-length.signature κs)
    (s₁ s₂ : Clauses.AtExit (kinds.ended_of 0 answer-length-kinds.ps answer-length-kinds.r) κs) → answer-length-reads.Post κs a r₁ s₁ → answer-length-reads.Post κs a r₂ s₂
    → r₁ ≡ r₂
determined-Answer-length κs a r₁ r₂ s₁ s₂ p q = p ∙ sym q

-- what `Answer::place` gives
pub determined-Answer-place : (κs : Lifetimes.Lfts 0) (a : World.ArgsD answer-place.signature κs) (r₁ r₂ : World.ResD answer-place.signature κs)
    (s₁ s₂ : Clauses.AtExit (kinds.ended_of 0 answer-place-kinds.ps answer-place-kinds.r) κs) → answer-place-reads.Post κs a r₁ s₁ → answer-place-reads.Post κs a r₂ s₂
    → r₁ ≡ r₂
determined-Answer-place κs a r₁ r₂ s₁ s₂ p q = p ∙ sym q
