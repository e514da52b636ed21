-- The public contracts leave no choice: any two results that they allow are equal.
use mathlib.Core.Path.{◌≡◌, sym, ◌∙◌}
use contract.Lifetimes
use borrow.Fn.World
use borrow.Fn.Kinds as kinds
use denote.Triple.Clauses
use Rattle.walk.specs.contracts.past.past as past
use Rattle.walk.proofs.past.past.Kinds as past-kinds
use Rattle.walk.proofs.past.past.Reads as past-reads
use Rattle.walk.specs.contracts.rows.Kept.fresh as Kept-fresh
use Rattle.walk.proofs.rows.Kept.fresh.Kinds as kept-fresh-kinds
use Rattle.walk.proofs.rows.Kept.fresh.Reads as kept-fresh-reads
use Rattle.walk.specs.contracts.rows.Kept.told as kept-told
use Rattle.walk.proofs.rows.Kept.told.Kinds as kept-told-kinds
use Rattle.walk.proofs.rows.Kept.told.Reads as kept-told-reads
use Rattle.walk.specs.contracts.stretch.noise as noise
use Rattle.walk.proofs.stretch.noise.Kinds as noise-kinds
use Rattle.walk.proofs.stretch.noise.Reads as noise-reads
use Rattle.walk.specs.contracts.tally.Tally.empty as tally-empty
use Rattle.walk.proofs.tally.Tally.empty.Kinds as tally-empty-kinds
use Rattle.walk.proofs.tally.Tally.empty.Reads as tally-empty-reads
use Rattle.walk.specs.contracts.tally.Tally.has_room as tally-has-room
use Rattle.walk.proofs.tally.Tally.has_room.Kinds as tally-has-room-kinds
use Rattle.walk.proofs.tally.Tally.has_room.Reads as tally-has-room-reads
use Rattle.walk.specs.contracts.tally.Tally.plus as tally-plus
use Rattle.walk.proofs.tally.Tally.plus.Kinds as tally-plus-kinds
use Rattle.walk.proofs.tally.Tally.plus.Reads as tally-plus-reads
use Rattle.walk.specs.contracts.tally.Tally.counted as tally-counted
use Rattle.walk.proofs.tally.Tally.counted.Kinds as tally-counted-kinds
use Rattle.walk.proofs.tally.Tally.counted.Reads as tally-counted-reads

-- what `past` answers
pub determined-past : (κs : Lifetimes.Lfts 0) (a : World.ArgsD past.signature κs) (r₁ r₂ : World.ResD past.signature κs)
    (s₁ s₂ : Clauses.AtExit (kinds.ended_of 0 past-kinds.ps past-kinds.r) κs) → past-reads.Post κs a r₁ s₁ → past-reads.Post κs a r₂ s₂
    → r₁ ≡ r₂
determined-past κs a r₁ r₂ s₁ s₂ p q = p ∙ sym q

-- what `Kept::fresh` gives
pub determined-Kept-fresh : (κs : Lifetimes.Lfts 0) (a : World.ArgsD Kept-fresh.signature κs) (r₁ r₂ : World.ResD Kept-fresh.signature κs)
    (s₁ s₂ : Clauses.AtExit (kinds.ended_of 0 kept-fresh-kinds.ps kept-fresh-kinds.r) κs) → kept-fresh-reads.Post κs a r₁ s₁ → kept-fresh-reads.Post κs a r₂ s₂
    → r₁ ≡ r₂
determined-Kept-fresh κs a r₁ r₂ s₁ s₂ p q = p ∙ sym q

-- what `Kept::told` gives
pub determined-Kept-told : (κs : Lifetimes.Lfts 0) (a : World.ArgsD kept-told.signature κs) (r₁ r₂ : World.ResD kept-told.signature κs)
    (s₁ s₂ : Clauses.AtExit (kinds.ended_of 0 kept-told-kinds.ps kept-told-kinds.r) κs) → kept-told-reads.Post κs a r₁ s₁ → kept-told-reads.Post κs a r₂ s₂
    → r₁ ≡ r₂
determined-Kept-told κs a r₁ r₂ s₁ s₂ p q = p ∙ sym q

-- what `noise` answers
pub determined-noise : (κs : Lifetimes.Lfts 1) (a : World.ArgsD noise.signature κs) (r₁ r₂ : World.ResD noise.signature κs)
    (s₁ s₂ : Clauses.AtExit (kinds.ended_of 1 noise-kinds.ps noise-kinds.r) κs) → noise-reads.Post κs a r₁ s₁ → noise-reads.Post κs a r₂ s₂
    → r₁ ≡ r₂
determined-noise κs a r₁ r₂ s₁ s₂ p q = p ∙ sym q

-- what `Tally::empty` gives
pub determined-Tally-empty : (κs : Lifetimes.Lfts 0) (a : World.ArgsD tally-empty.signature κs) (r₁ r₂ : World.ResD tally-empty.signature κs)
    (s₁ s₂ : Clauses.AtExit (kinds.ended_of 0 tally-empty-kinds.ps tally-empty-kinds.r) κs) → tally-empty-reads.Post κs a r₁ s₁ → tally-empty-reads.Post κs a r₂ s₂
    → r₁ ≡ r₂
determined-Tally-empty κs a r₁ r₂ s₁ s₂ p q = p ∙ sym q

-- what `Tally::has_room` answers
pub determined-Tally-has-room : (κs : Lifetimes.Lfts 0) (a : World.ArgsD tally-has-room.signature κs) (r₁ r₂ : World.ResD tally-has-room.signature κs)
    (s₁ s₂ : Clauses.AtExit (kinds.ended_of 0 tally-has-room-kinds.ps tally-has-room-kinds.r) κs) → tally-has-room-reads.Post κs a r₁ s₁ → tally-has-room-reads.Post κs a r₂ s₂
    → r₁ ≡ r₂
determined-Tally-has-room κs a r₁ r₂ s₁ s₂ p q = p ∙ sym q

-- what `Tally::plus` gives
pub determined-Tally-plus : (κs : Lifetimes.Lfts 0) (a : World.ArgsD tally-plus.signature κs) (r₁ r₂ : World.ResD tally-plus.signature κs)
    (s₁ s₂ : Clauses.AtExit (kinds.ended_of 0 tally-plus-kinds.ps tally-plus-kinds.r) κs) → tally-plus-reads.Post κs a r₁ s₁ → tally-plus-reads.Post κs a r₂ s₂
    → r₁ ≡ r₂
determined-Tally-plus κs a r₁ r₂ s₁ s₂ p q = p ∙ sym q

-- what `Tally::counted` gives
pub determined-Tally-counted : (κs : Lifetimes.Lfts 0) (a : World.ArgsD tally-counted.signature κs) (r₁ r₂ : World.ResD tally-counted.signature κs)
    (s₁ s₂ : Clauses.AtExit (kinds.ended_of 0 tally-counted-kinds.ps tally-counted-kinds.r) κs) → tally-counted-reads.Post κs a r₁ s₁ → tally-counted-reads.Post κs a r₂ s₂
    → r₁ ≡ r₂
determined-Tally-counted κs a r₁ r₂ s₁ s₂ p q = p ∙ sym q
