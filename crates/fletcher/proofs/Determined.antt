-- The contract of the sums leaves no choice: any two results that it allows are equal.
use mathlib.Core.Path.{◌≡◌, sym, ◌∙◌}
use contract.Lifetimes
use borrow.Fn.World
use borrow.Fn.Kinds as kinds
use denote.Triple.Clauses
use Rattle.fletcher.specs.contracts.check_sums as check-sums
use Rattle.fletcher.proofs.check_sums.Kinds as own
use Rattle.fletcher.proofs.check_sums.Reads as reads

pub determined-check-sums : (κs : Lifetimes.Lfts 1) (a : World.ArgsD check-sums.signature κs) (r₁ r₂ : World.ResD check-sums.signature κs)
    (s₁ s₂ : Clauses.AtExit (kinds.ended_of 1 own.ps own.r) κs) → reads.Post κs a r₁ s₁ → reads.Post κs a r₂ s₂
    → r₁ ≡ r₂
determined-check-sums κs a r₁ r₂ s₁ s₂ p q = p ∙ sym q
