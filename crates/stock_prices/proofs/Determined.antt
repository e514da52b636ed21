-- The public contracts leave no choice: any two results that they allow are equal.
use mathlib.Core.Path.{◌≡◌, sym, ◌∙◌}
use contract.Lifetimes
use borrow.Fn.World
use borrow.Fn.Kinds as kinds
use denote.Triple.Clauses
use Rattle.stock_prices.specs.contracts.no_slot as slot
use Rattle.stock_prices.proofs.no_slot.Kinds as sown
use Rattle.stock_prices.proofs.no_slot.Reads as sreads
use Rattle.stock_prices.specs.contracts.empty as none
use Rattle.stock_prices.proofs.empty.Kinds as nown
use Rattle.stock_prices.proofs.empty.Reads as nreads
use Rattle.stock_prices.specs.contracts.rules.time_right as time
use Rattle.stock_prices.proofs.rules.time_right.Kinds as town
use Rattle.stock_prices.proofs.rules.time_right.Reads as treads
use Rattle.stock_prices.specs.contracts.rules.slot_right as fields
use Rattle.stock_prices.proofs.rules.slot_right.Kinds as fown
use Rattle.stock_prices.proofs.rules.slot_right.Reads as freads

-- what `no_slot` gives
pub determined-no-slot : (κs : Lifetimes.Lfts 0) (a : World.ArgsD slot.signature κs) (r₁ r₂ : World.ResD slot.signature κs)
    (s₁ s₂ : Clauses.AtExit (kinds.ended_of 0 sown.ps sown.r) κs) → sreads.Post κs a r₁ s₁ → sreads.Post κs a r₂ s₂
    → r₁ ≡ r₂
determined-no-slot κs a r₁ r₂ s₁ s₂ p q = p ∙ sym q

-- what `empty` gives
pub determined-empty : (κs : Lifetimes.Lfts 0) (a : World.ArgsD none.signature κs) (r₁ r₂ : World.ResD none.signature κs)
    (s₁ s₂ : Clauses.AtExit (kinds.ended_of 0 nown.ps nown.r) κs) → nreads.Post κs a r₁ s₁ → nreads.Post κs a r₂ s₂
    → r₁ ≡ r₂
determined-empty κs a r₁ r₂ s₁ s₂ p q = p ∙ sym q

-- what `time_right` answers
pub determined-time-right : (κs : Lifetimes.Lfts 0) (a : World.ArgsD time.signature κs) (r₁ r₂ : World.ResD time.signature κs)
    (s₁ s₂ : Clauses.AtExit (kinds.ended_of 0 town.ps town.r) κs) → treads.Post κs a r₁ s₁ → treads.Post κs a r₂ s₂
    → r₁ ≡ r₂
determined-time-right κs a r₁ r₂ s₁ s₂ p q = p ∙ sym q

-- what `slot_right` answers
pub determined-slot-right : (κs : Lifetimes.Lfts 0) (a : World.ArgsD fields.signature κs) (r₁ r₂ : World.ResD fields.signature κs)
    (s₁ s₂ : Clauses.AtExit (kinds.ended_of 0 fown.ps fown.r) κs) → freads.Post κs a r₁ s₁ → freads.Post κs a r₂ s₂
    → r₁ ≡ r₂
determined-slot-right κs a r₁ r₂ s₁ s₂ p q = p ∙ sym q
