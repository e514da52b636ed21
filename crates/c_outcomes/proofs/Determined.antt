-- The public contracts leave no choice: any two results that they allow are equal.
use mathlib.Core.Path.{◌≡◌, sym, ◌∙◌}
use contract.Lifetimes
use borrow.Fn.World
use borrow.Fn.Kinds as kinds
use denote.Triple.Clauses
use Rattle.c_outcomes.specs.contracts.is_of as is-of
use Rattle.c_outcomes.proofs.is_of.Kinds as is-of-kinds
use Rattle.c_outcomes.proofs.is_of.Reads as is-of-reads
use Rattle.c_outcomes.specs.contracts.of_answer as of-answer
use Rattle.c_outcomes.proofs.of_answer.Kinds as of-answer-kinds
use Rattle.c_outcomes.proofs.of_answer.Reads as of-answer-reads
use Rattle.c_outcomes.specs.contracts.of_move as of-move
use Rattle.c_outcomes.proofs.of_move.Kinds as of-move-kinds
use Rattle.c_outcomes.proofs.of_move.Reads as of-move-reads
use Rattle.c_outcomes.specs.contracts.of_step as of-step
use Rattle.c_outcomes.proofs.of_step.Kinds as of-step-kinds
use Rattle.c_outcomes.proofs.of_step.Reads as of-step-reads
use Rattle.c_outcomes.specs.contracts.of_written as of-written
use Rattle.c_outcomes.proofs.of_written.Kinds as of-written-kinds
use Rattle.c_outcomes.proofs.of_written.Reads as of-written-reads

-- what `of_answer` gives
pub determined-of-answer : (κs : Lifetimes.Lfts 0) (a : World.ArgsD of-answer.signature κs) (r₁ r₂ : World.ResD of-answer.signature κs)
    (s₁ s₂ : Clauses.AtExit (kinds.ended_of 0 of-answer-kinds.ps of-answer-kinds.r) κs) → of-answer-reads.Post κs a r₁ s₁ → of-answer-reads.Post κs a r₂ s₂
    → r₁ ≡ r₂
determined-of-answer κs a r₁ r₂ s₁ s₂ p q = p ∙ sym q

-- what `of_move` gives
pub determined-of-move : (κs : Lifetimes.Lfts 0) (a : World.ArgsD of-move.signature κs) (r₁ r₂ : World.ResD of-move.signature κs)
    (s₁ s₂ : Clauses.AtExit (kinds.ended_of 0 of-move-kinds.ps of-move-kinds.r) κs) → of-move-reads.Post κs a r₁ s₁ → of-move-reads.Post κs a r₂ s₂
    → r₁ ≡ r₂
determined-of-move κs a r₁ r₂ s₁ s₂ p q = p ∙ sym q

-- what `of_step` gives
pub determined-of-step : (κs : Lifetimes.Lfts 0) (a : World.ArgsD of-step.signature κs) (r₁ r₂ : World.ResD of-step.signature κs)
    (s₁ s₂ : Clauses.AtExit (kinds.ended_of 0 of-step-kinds.ps of-step-kinds.r) κs) → of-step-reads.Post κs a r₁ s₁ → of-step-reads.Post κs a r₂ s₂
    → r₁ ≡ r₂
determined-of-step κs a r₁ r₂ s₁ s₂ p q = p ∙ sym q

-- what `of_written` gives
pub determined-of-written : (κs : Lifetimes.Lfts 0) (a : World.ArgsD of-written.signature κs) (r₁ r₂ : World.ResD of-written.signature κs)
    (s₁ s₂ : Clauses.AtExit (kinds.ended_of 0 of-written-kinds.ps of-written-kinds.r) κs) → of-written-reads.Post κs a r₁ s₁ → of-written-reads.Post κs a r₂ s₂
    → r₁ ≡ r₂
determined-of-written κs a r₁ r₂ s₁ s₂ p q = p ∙ sym q

-- what `is_of` gives
pub determined-is-of : (κs : Lifetimes.Lfts 0) (a : World.ArgsD is-of.signature κs) (r₁ r₂ : World.ResD is-of.signature κs)
    (s₁ s₂ : Clauses.AtExit (kinds.ended_of 0 is-of-kinds.ps is-of-kinds.r) κs) → is-of-reads.Post κs a r₁ s₁ → is-of-reads.Post κs a r₂ s₂
    → r₁ ≡ r₂
determined-is-of κs a r₁ r₂ s₁ s₂ p q = p ∙ sym q
