-- The public contracts leave no choice: any two results that they allow are equal.
use mathlib.Core.Path.{◌≡◌, sym, ◌∙◌}
use contract.Lifetimes
use borrow.Fn.World
use borrow.Fn.Kinds as kinds
use denote.Triple.Clauses
use Rattle.codes_times.specs.contracts.code_at as code
use Rattle.codes_times.proofs.code_at.Kinds as kown
use Rattle.codes_times.proofs.code_at.Reads as kreads
use Rattle.codes_times.specs.contracts.code_right as right
use Rattle.codes_times.proofs.code_right.Kinds as rown
use Rattle.codes_times.proofs.code_right.Reads as rreads
use Rattle.codes_times.specs.contracts.zero_code as zeroes
use Rattle.codes_times.proofs.zero_code.Kinds as zown
use Rattle.codes_times.proofs.zero_code.Reads as zreads
use Rattle.codes_times.specs.contracts.time_of_day as day
use Rattle.codes_times.proofs.time_of_day.Kinds as down
use Rattle.codes_times.proofs.time_of_day.Reads as dreads

-- what `code_right` answers
pub determined-code-right : (κs : Lifetimes.Lfts 1) (a : World.ArgsD right.signature κs) (r₁ r₂ : World.ResD right.signature κs)
    (s₁ s₂ : Clauses.AtExit (kinds.ended_of 1 rown.ps rown.r) κs) → rreads.Post κs a r₁ s₁ → rreads.Post κs a r₂ s₂
    → r₁ ≡ r₂
determined-code-right κs a r₁ r₂ s₁ s₂ p q = p ∙ sym q

-- what `zero_code` answers
pub determined-zero-code : (κs : Lifetimes.Lfts 1) (a : World.ArgsD zeroes.signature κs) (r₁ r₂ : World.ResD zeroes.signature κs)
    (s₁ s₂ : Clauses.AtExit (kinds.ended_of 1 zown.ps zown.r) κs) → zreads.Post κs a r₁ s₁ → zreads.Post κs a r₂ s₂
    → r₁ ≡ r₂
determined-zero-code κs a r₁ r₂ s₁ s₂ p q = p ∙ sym q

-- what `time_of_day` answers
pub determined-time-of-day : (κs : Lifetimes.Lfts 0) (a : World.ArgsD day.signature κs) (r₁ r₂ : World.ResD day.signature κs)
    (s₁ s₂ : Clauses.AtExit (kinds.ended_of 0 down.ps down.r) κs) → dreads.Post κs a r₁ s₁ → dreads.Post κs a r₂ s₂
    → r₁ ≡ r₂
determined-time-of-day κs a r₁ r₂ s₁ s₂ p q = p ∙ sym q

-- what `code_at` gives
pub determined-code-at : (κs : Lifetimes.Lfts 1) (a : World.ArgsD code.signature κs) (r₁ r₂ : World.ResD code.signature κs)
    (s₁ s₂ : Clauses.AtExit (kinds.ended_of 1 kown.ps kown.r) κs) → kreads.Post κs a r₁ s₁ → kreads.Post κs a r₂ s₂
    → r₁ ≡ r₂
determined-code-at κs a r₁ r₂ s₁ s₂ p q = p ∙ sym q
