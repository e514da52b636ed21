-- The public contracts leave no choice: any two results that they allow are equal.
use mathlib.Core.Path.{◌≡◌, sym, ◌∙◌}
use contract.Lifetimes
use borrow.Fn.World
use borrow.Fn.Kinds as kinds
use denote.Triple.Clauses
use Rattle.derivatives_index.specs.contracts.index.empty as none
use Rattle.derivatives_index.proofs.index.empty.Kinds as nown
use Rattle.derivatives_index.proofs.index.empty.Reads as nreads
use Rattle.derivatives_index.specs.contracts.reading.read
use Rattle.derivatives_index.proofs.reading.read.Kinds as rown
use Rattle.derivatives_index.proofs.reading.read.Reads as rreads
use Rattle.derivatives_index.specs.contracts.writing.write
use Rattle.derivatives_index.proofs.writing.write.Kinds as wown
use Rattle.derivatives_index.proofs.writing.write.Reads as wreads

-- what `index::empty` gives
pub determined-empty : (κs : Lifetimes.Lfts 0) (a : World.ArgsD none.signature κs) (r₁ r₂ : World.ResD none.signature κs)
    (s₁ s₂ : Clauses.AtExit (kinds.ended_of 0 nown.ps nown.r) κs) → nreads.Post κs a r₁ s₁ → nreads.Post κs a r₂ s₂
    → r₁ ≡ r₂
determined-empty κs a r₁ r₂ s₁ s₂ p q = p ∙ sym q

-- what `reading::read` answers, the message with it
pub determined-read : (κs : Lifetimes.Lfts 1) (a : World.ArgsD read.signature κs) (r₁ r₂ : World.ResD read.signature κs)
    (s₁ s₂ : Clauses.AtExit (kinds.ended_of 1 rown.ps rown.r) κs) → rreads.Post κs a r₁ s₁ → rreads.Post κs a r₂ s₂
    → r₁ ≡ r₂
determined-read κs a r₁ r₂ s₁ s₂ p q = p ∙ sym q

-- what `writing::write` answers, and the bytes afterwards
pub determined-write : (κs : Lifetimes.Lfts 1) (a : World.ArgsD write.signature κs) (r₁ r₂ : World.ResD write.signature κs)
    (s₁ s₂ : Clauses.AtExit (kinds.ended_of 1 wown.ps wown.r) κs) → wreads.Post κs a r₁ s₁ → wreads.Post κs a r₂ s₂
    → (r₁ ≡ r₂) × (s₁.1.0.now ≡ s₂.1.0.now)
determined-write κs a r₁ r₂ s₁ s₂ p q = (p.0 ∙ sym q.0, p.1 ∙ sym q.1)
