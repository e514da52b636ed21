-- The contract leaves no choice: any two results that it allows are equal.
use mathlib.Core.Path.{◌≡◌, sym, ◌∙◌}
use contract.Lifetimes
use borrow.Fn.World
use borrow.Fn.Kinds as kinds
use denote.Triple.Clauses
use Rattle.stock_halts_write.specs.contracts.write
use Rattle.stock_halts_write.proofs.write.Kinds as wown
use Rattle.stock_halts_write.proofs.write.Reads as wreads

-- what `write` answers, and the bytes afterwards
pub determined-write : (κs : Lifetimes.Lfts 1) (a : World.ArgsD write.signature κs) (r₁ r₂ : World.ResD write.signature κs)
    (s₁ s₂ : Clauses.AtExit (kinds.ended_of 1 wown.ps wown.r) κs) → wreads.Post κs a r₁ s₁ → wreads.Post κs a r₂ s₂
    → (r₁ ≡ r₂) × (s₁.1.0.now ≡ s₂.1.0.now)
determined-write κs a r₁ r₂ s₁ s₂ p q = (p.0 ∙ sym q.0, p.1 ∙ sym q.1)
