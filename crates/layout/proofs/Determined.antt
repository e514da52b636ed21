-- The public contracts leave no choice: any two results that they allow are equal.
use mathlib.Core.Path.{◌≡◌, sym, ◌∙◌}
use contract.Lifetimes
use borrow.Fn.World
use borrow.Fn.Kinds as kinds
use denote.Triple.Clauses
use Rattle.layout.specs.contracts.put_bytes as put
use Rattle.layout.proofs.put_bytes.Kinds as pown
use Rattle.layout.proofs.put_bytes.Reads as preads
use Rattle.layout.specs.contracts.places.first_bad as first-bad
use Rattle.layout.proofs.places.first_bad.Kinds as fown
use Rattle.layout.proofs.places.first_bad.Reads as freads
use Rattle.layout.specs.contracts.places.first_bad_from as first-bad-from
use Rattle.layout.proofs.places.first_bad_from.Kinds as bown
use Rattle.layout.proofs.places.first_bad_from.Reads as breads

-- the buffer after `put_bytes`
pub determined-put-bytes : (κs : Lifetimes.Lfts 2) (a : World.ArgsD put.signature κs) (r₁ r₂ : World.ResD put.signature κs)
    (s₁ s₂ : Clauses.AtExit (kinds.ended_of 2 pown.ps pown.r) κs) → preads.Post κs a r₁ s₁ → preads.Post κs a r₂ s₂
    → s₁.1.0.now ≡ s₂.1.0.now
determined-put-bytes κs a r₁ r₂ s₁ s₂ p q = p ∙ sym q

-- what `first_bad` answers
pub determined-first-bad : (κs : Lifetimes.Lfts 2) (a : World.ArgsD first-bad.signature κs) (r₁ r₂ : World.ResD first-bad.signature κs)
    (s₁ s₂ : Clauses.AtExit (kinds.ended_of 2 fown.ps fown.r) κs) → freads.Post κs a r₁ s₁ → freads.Post κs a r₂ s₂
    → r₁ ≡ r₂
determined-first-bad κs a r₁ r₂ s₁ s₂ p q = p ∙ sym q

-- what `first_bad_from` answers
pub determined-first-bad-from : (κs : Lifetimes.Lfts 2) (a : World.ArgsD first-bad-from.signature κs) (r₁ r₂ : World.ResD first-bad-from.signature κs)
    (s₁ s₂ : Clauses.AtExit (kinds.ended_of 2 bown.ps bown.r) κs) → breads.Post κs a r₁ s₁ → breads.Post κs a r₂ s₂
    → r₁ ≡ r₂
determined-first-bad-from κs a r₁ r₂ s₁ s₂ p q = p ∙ sym q
