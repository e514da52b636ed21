-- The public contracts leave no choice: any two results that they allow are equal.
use mathlib.Core.Path.{◌≡◌, sym, ◌∙◌}
use contract.Lifetimes
use borrow.Fn.World
use borrow.Fn.Kinds as kinds
use denote.Triple.Clauses
use Rattle.stock_frame.specs.contracts.outline.outline
use Rattle.stock_frame.proofs.outline.outline.Kinds as oown
use Rattle.stock_frame.proofs.outline.outline.Reads as oreads
use Rattle.stock_frame.specs.contracts.places.bad_digit as bad-digit
use Rattle.stock_frame.proofs.places.bad_digit.Kinds as bown
use Rattle.stock_frame.proofs.places.bad_digit.Reads as breads
use Rattle.stock_frame.specs.contracts.closing.close
use Rattle.stock_frame.proofs.closing.close.Kinds as cown
use Rattle.stock_frame.proofs.closing.close.Reads as creads

-- what `outline` answers
pub determined-outline : (κs : Lifetimes.Lfts 1) (a : World.ArgsD outline.signature κs) (r₁ r₂ : World.ResD outline.signature κs)
    (s₁ s₂ : Clauses.AtExit (kinds.ended_of 1 oown.ps oown.r) κs) → oreads.Post κs a r₁ s₁ → oreads.Post κs a r₂ s₂
    → r₁ ≡ r₂
determined-outline κs a r₁ r₂ s₁ s₂ p q = p ∙ sym q

-- what `bad_digit` answers
pub determined-bad-digit : (κs : Lifetimes.Lfts 2) (a : World.ArgsD bad-digit.signature κs) (r₁ r₂ : World.ResD bad-digit.signature κs)
    (s₁ s₂ : Clauses.AtExit (kinds.ended_of 2 bown.ps bown.r) κs) → breads.Post κs a r₁ s₁ → breads.Post κs a r₂ s₂
    → r₁ ≡ r₂
determined-bad-digit κs a r₁ r₂ s₁ s₂ p q = p ∙ sym q

-- what `close` answers, and the buffer afterwards
pub determined-close : (κs : Lifetimes.Lfts 1) (a : World.ArgsD close.signature κs) (r₁ r₂ : World.ResD close.signature κs)
    (s₁ s₂ : Clauses.AtExit (kinds.ended_of 1 cown.ps cown.r) κs) → creads.Post κs a r₁ s₁ → creads.Post κs a r₂ s₂
    → (r₁ ≡ r₂) × (s₁.0.now ≡ s₂.0.now)
determined-close κs a r₁ r₂ s₁ s₂ p q = (p.0 ∙ sym q.0, p.1 ∙ sym q.1)
