-- The contract leaves no choice: any two results that it allows are equal.
use mathlib.Core.Path.{◌≡◌, sym, ◌∙◌}
use contract.Lifetimes
use borrow.Fn.World
use borrow.Fn.Kinds as kinds
use denote.Triple.Clauses
use Rattle.stock_prices_read.specs.contracts.read
use Rattle.stock_prices_read.proofs.read.Kinds as rown
use Rattle.stock_prices_read.proofs.read.Reads as rreads

-- what `read` answers, the message with it
pub determined-read : (κs : Lifetimes.Lfts 1) (a : World.ArgsD read.signature κs) (r₁ r₂ : World.ResD read.signature κs)
    (s₁ s₂ : Clauses.AtExit (kinds.ended_of 1 rown.ps rown.r) κs) → rreads.Post κs a r₁ s₁ → rreads.Post κs a r₂ s₂
    → r₁ ≡ r₂
determined-read κs a r₁ r₂ s₁ s₂ p q = p ∙ sym q
