-- What `read` answers, the quote with it, is settled: any two results that its contract allows are equal.
use mathlib.Core.Path.{◌≡◌, sym, ◌∙◌}
use contract.Lifetimes
use borrow.Fn.World
use borrow.Fn.Kinds as kinds
use denote.Triple.Clauses
use Rattle.stock_quotes_read.specs.contracts.read
use Rattle.stock_quotes_read.proofs.read.Kinds as read-kinds
use Rattle.stock_quotes_read.proofs.read.Reads as read-reads

pub determined-read : (κs : Lifetimes.Lfts 1) (a : World.ArgsD read.signature κs) (r₁ r₂ : World.ResD read.signature κs)
    (s₁ s₂ : Clauses.AtExit (kinds.ended_of 1 read-kinds.ps read-kinds.r) κs) → read-reads.Post κs a r₁ s₁ → read-reads.Post κs a r₂ s₂ → r₁ ≡ r₂
determined-read κs a r₁ r₂ s₁ s₂ p q = p ∙ sym q
