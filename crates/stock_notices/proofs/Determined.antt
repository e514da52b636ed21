-- The public contracts leave no choice: any two results that they allow are equal.
use mathlib.Core.Path.{◌≡◌, sym, ◌∙◌}
use contract.Lifetimes
use borrow.Fn.World
use borrow.Fn.Kinds as kinds
use denote.Triple.Clauses
use Rattle.stock_notices.specs.contracts.empty as none
use Rattle.stock_notices.proofs.empty.Kinds as nown
use Rattle.stock_notices.proofs.empty.Reads as nreads
use Rattle.stock_notices.specs.contracts.known as known
use Rattle.stock_notices.proofs.known.Kinds as kown
use Rattle.stock_notices.proofs.known.Reads as kreads

-- what `empty` gives
pub determined-empty : (κs : Lifetimes.Lfts 0) (a : World.ArgsD none.signature κs) (r₁ r₂ : World.ResD none.signature κs)
    (s₁ s₂ : Clauses.AtExit (kinds.ended_of 0 nown.ps nown.r) κs) → nreads.Post κs a r₁ s₁ → nreads.Post κs a r₂ s₂
    → r₁ ≡ r₂
determined-empty κs a r₁ r₂ s₁ s₂ p q = p ∙ sym q

-- what `known` answers
pub determined-known : (κs : Lifetimes.Lfts 0) (a : World.ArgsD known.signature κs) (r₁ r₂ : World.ResD known.signature κs)
    (s₁ s₂ : Clauses.AtExit (kinds.ended_of 0 kown.ps kown.r) κs) → kreads.Post κs a r₁ s₁ → kreads.Post κs a r₂ s₂
    → r₁ ≡ r₂
determined-known κs a r₁ r₂ s₁ s₂ p q = p ∙ sym q
