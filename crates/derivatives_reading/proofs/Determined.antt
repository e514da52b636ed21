-- The public contracts leave no choice: any two results that they allow are equal.
use mathlib.Core.Path.{◌≡◌, sym, ◌∙◌}
use contract.Lifetimes
use borrow.Fn.World
use borrow.Fn.Kinds as kinds
use denote.Triple.Clauses
use Rattle.derivatives_reading.specs.contracts.read as read
use Rattle.derivatives_reading.proofs.read.Kinds as read-kinds
use Rattle.derivatives_reading.proofs.read.Reads as read-reads
use Rattle.derivatives_reading.specs.contracts.read_index as read-index
use Rattle.derivatives_reading.proofs.read_index.Kinds as read-index-kinds
use Rattle.derivatives_reading.proofs.read_index.Reads as read-index-reads

-- what `read` answers
pub determined-read : (κs : Lifetimes.Lfts 1) (a : World.ArgsD read.signature κs) (r₁ r₂ : World.ResD read.signature κs)
    (s₁ s₂ : Clauses.AtExit (kinds.ended_of 1 read-kinds.ps read-kinds.r) κs) → read-reads.Post κs a r₁ s₁ → read-reads.Post κs a r₂ s₂
    → r₁ ≡ r₂
determined-read κs a r₁ r₂ s₁ s₂ p q = p ∙ sym q

-- what `read_index` answers
pub determined-read-index : (κs : Lifetimes.Lfts 1) (a : World.ArgsD read-index.signature κs) (r₁ r₂ : World.ResD read-index.signature κs)
    (s₁ s₂ : Clauses.AtExit (kinds.ended_of 1 read-index-kinds.ps read-index-kinds.r) κs) → read-index-reads.Post κs a r₁ s₁ → read-index-reads.Post κs a r₂ s₂
    → r₁ ≡ r₂
determined-read-index κs a r₁ r₂ s₁ s₂ p q = p ∙ sym q
