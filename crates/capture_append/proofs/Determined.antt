-- The contracts of appending leave no choice: any two results that they allow are equal, and so are the bytes afterwards.
use mathlib.Core.Path.{◌≡◌, sym, ◌∙◌}
use contract.Lifetimes
use borrow.Fn.World
use borrow.Fn.Kinds as kinds
use denote.Triple.Clauses
use Rattle.capture_append.specs.contracts.append
use Rattle.capture_append.proofs.append.Kinds as aown
use Rattle.capture_append.proofs.append.Reads as areads
use Rattle.capture_append.specs.contracts.append_cut as append-cut
use Rattle.capture_append.proofs.append_cut.Kinds as cown
use Rattle.capture_append.proofs.append_cut.Reads as creads
use Rattle.capture_append.specs.contracts.AppendError.number as append-error-number
use Rattle.capture_append.proofs.AppendError.number.Kinds as append-error-number-kinds
use Rattle.capture_append.proofs.AppendError.number.Reads as append-error-number-reads

-- an append
pub determined-append : (κs : Lifetimes.Lfts 2) (a : World.ArgsD append.signature κs) (r₁ r₂ : World.ResD append.signature κs)
    (s₁ s₂ : Clauses.AtExit (kinds.ended_of 2 aown.ps aown.r) κs) → areads.Post κs a r₁ s₁ → areads.Post κs a r₂ s₂
    → (r₁ ≡ r₂) × (s₁.0.now ≡ s₂.0.now)
determined-append κs a r₁ r₂ s₁ s₂ p q = (p.0 ∙ sym q.0, p.1 ∙ sym q.1)

-- one whose power is cut after any number of stores
pub determined-append-cut : (κs : Lifetimes.Lfts 2) (a : World.ArgsD append-cut.signature κs) (r₁ r₂ : World.ResD append-cut.signature κs)
    (s₁ s₂ : Clauses.AtExit (kinds.ended_of 2 cown.ps cown.r) κs) → creads.Post κs a r₁ s₁ → creads.Post κs a r₂ s₂
    → (r₁ ≡ r₂) × (s₁.0.now ≡ s₂.0.now)
determined-append-cut κs a r₁ r₂ s₁ s₂ p q = (p.0 ∙ sym q.0, p.1 ∙ sym q.1)

-- what `AppendError::number` gives
pub determined-AppendError-number : (κs : Lifetimes.Lfts 0) (a : World.ArgsD append-error-number.signature κs) (r₁ r₂ : World.ResD append-error-number.signature κs)
    (s₁ s₂ : Clauses.AtExit (kinds.ended_of 0 append-error-number-kinds.ps append-error-number-kinds.r) κs) → append-error-number-reads.Post κs a r₁ s₁ → append-error-number-reads.Post κs a r₂ s₂
    → r₁ ≡ r₂
determined-AppendError-number κs a r₁ r₂ s₁ s₂ p q = p ∙ sym q
