-- The contracts of the calls that clear and read a capture leave no choice: any two results that they allow are equal.
use mathlib.Core.Path.{◌≡◌, sym, ◌∙◌}
use contract.Lifetimes
use borrow.Fn.World
use borrow.Fn.Kinds as kinds
use denote.Triple.Clauses
use Rattle.capture.specs.contracts.reading.clear
use Rattle.capture.proofs.reading.clear.Kinds as cown
use Rattle.capture.proofs.reading.clear.Reads as creads
use Rattle.capture.specs.contracts.reading.finished
use Rattle.capture.proofs.reading.finished.Kinds as fown
use Rattle.capture.proofs.reading.finished.Reads as freads
use Rattle.capture.specs.contracts.reading.payload_at as payload-at
use Rattle.capture.proofs.reading.payload_at.Kinds as pown
use Rattle.capture.proofs.reading.payload_at.Reads as preads
use Rattle.capture.specs.contracts.OtherSize.number as other-size-number
use Rattle.capture.proofs.OtherSize.number.Kinds as other-size-number-kinds
use Rattle.capture.proofs.OtherSize.number.Reads as other-size-number-reads
use Rattle.capture.specs.contracts.Unsound.number as unsound-number
use Rattle.capture.proofs.Unsound.number.Kinds as unsound-number-kinds
use Rattle.capture.proofs.Unsound.number.Reads as unsound-number-reads

-- what clearing answers, and the bytes afterwards
pub determined-clear : (κs : Lifetimes.Lfts 1) (a : World.ArgsD clear.signature κs) (r₁ r₂ : World.ResD clear.signature κs)
    (s₁ s₂ : Clauses.AtExit (kinds.ended_of 1 cown.ps cown.r) κs) → creads.Post κs a r₁ s₁ → creads.Post κs a r₂ s₂
    → (r₁ ≡ r₂) × (s₁.0.now ≡ s₂.0.now)
determined-clear κs a r₁ r₂ s₁ s₂ p q = (p.0 ∙ sym q.0, p.1 ∙ sym q.1)

-- how many blocks are finished
pub determined-finished : (κs : Lifetimes.Lfts 1) (a : World.ArgsD finished.signature κs) (r₁ r₂ : World.ResD finished.signature κs)
    (s₁ s₂ : Clauses.AtExit (kinds.ended_of 1 fown.ps fown.r) κs) → freads.Post κs a r₁ s₁ → freads.Post κs a r₂ s₂
    → r₁ ≡ r₂
determined-finished κs a r₁ r₂ s₁ s₂ p q = p ∙ sym q

-- the payload at a place
pub determined-payload-at : (κs : Lifetimes.Lfts 1) (a : World.ArgsD payload-at.signature κs) (r₁ r₂ : World.ResD payload-at.signature κs)
    (s₁ s₂ : Clauses.AtExit (kinds.ended_of 1 pown.ps pown.r) κs) → preads.Post κs a r₁ s₁ → preads.Post κs a r₂ s₂
    → r₁ ≡ r₂
determined-payload-at κs a r₁ r₂ s₁ s₂ p q = p ∙ sym q

-- what `OtherSize::number` gives
pub determined-OtherSize-number : (κs : Lifetimes.Lfts 0) (a : World.ArgsD other-size-number.signature κs) (r₁ r₂ : World.ResD other-size-number.signature κs)
    (s₁ s₂ : Clauses.AtExit (kinds.ended_of 0 other-size-number-kinds.ps other-size-number-kinds.r) κs) → other-size-number-reads.Post κs a r₁ s₁ → other-size-number-reads.Post κs a r₂ s₂
    → r₁ ≡ r₂
determined-OtherSize-number κs a r₁ r₂ s₁ s₂ p q = p ∙ sym q

-- what `Unsound::number` gives
pub determined-Unsound-number : (κs : Lifetimes.Lfts 0) (a : World.ArgsD unsound-number.signature κs) (r₁ r₂ : World.ResD unsound-number.signature κs)
    (s₁ s₂ : Clauses.AtExit (kinds.ended_of 0 unsound-number-kinds.ps unsound-number-kinds.r) κs) → unsound-number-reads.Post κs a r₁ s₁ → unsound-number-reads.Post κs a r₂ s₂
    → r₁ ≡ r₂
determined-Unsound-number κs a r₁ r₂ s₁ s₂ p q = p ∙ sym q
