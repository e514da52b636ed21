-- The public contracts leave no choice: any two results that they allow are equal.
use mathlib.Core.Path.{◌≡◌, sym, ◌∙◌}
use contract.Lifetimes
use borrow.Fn.World
use borrow.Fn.Kinds as kinds
use denote.Triple.Clauses
use Rattle.ledger_ends.specs.contracts.look as look
use Rattle.ledger_ends.proofs.look.Kinds as look-kinds
use Rattle.ledger_ends.proofs.look.Reads as look-reads
use Rattle.ledger_ends.specs.contracts.heard_in as heard
use Rattle.ledger_ends.proofs.heard_in.Kinds as heard-kinds
use Rattle.ledger_ends.proofs.heard_in.Reads as heard-reads
use Rattle.ledger_ends.specs.contracts.missing_in as missing
use Rattle.ledger_ends.proofs.missing_in.Kinds as missing-kinds
use Rattle.ledger_ends.proofs.missing_in.Reads as missing-reads

-- what `look` finds
pub determined-look : (κs : Lifetimes.Lfts 1) (a : World.ArgsD look.signature κs) (r₁ r₂ : World.ResD look.signature κs)
    (s₁ s₂ : Clauses.AtExit (kinds.ended_of 1 look-kinds.ps look-kinds.r) κs) → look-reads.Post κs a r₁ s₁ → look-reads.Post κs a r₂ s₂
    → r₁ ≡ r₂
determined-look κs a r₁ r₂ s₁ s₂ p q = p ∙ sym q

-- what `heard_in` counts
pub determined-heard-in : (κs : Lifetimes.Lfts 1) (a : World.ArgsD heard.signature κs) (r₁ r₂ : World.ResD heard.signature κs)
    (s₁ s₂ : Clauses.AtExit (kinds.ended_of 1 heard-kinds.ps heard-kinds.r) κs) → heard-reads.Post κs a r₁ s₁ → heard-reads.Post κs a r₂ s₂
    → r₁ ≡ r₂
determined-heard-in κs a r₁ r₂ s₁ s₂ p q = p ∙ sym q

-- what `missing_in` counts
pub determined-missing-in : (κs : Lifetimes.Lfts 1) (a : World.ArgsD missing.signature κs) (r₁ r₂ : World.ResD missing.signature κs)
    (s₁ s₂ : Clauses.AtExit (kinds.ended_of 1 missing-kinds.ps missing-kinds.r) κs) → missing-reads.Post κs a r₁ s₁ → missing-reads.Post κs a r₂ s₂
    → r₁ ≡ r₂
determined-missing-in κs a r₁ r₂ s₁ s₂ p q = p ∙ sym q
