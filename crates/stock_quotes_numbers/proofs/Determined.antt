-- Every public function's contract allows one result: any two that it allows are equal.
use mathlib.Core.Path.{◌≡◌, sym, ◌∙◌}
use contract.Lifetimes
use borrow.Fn.World
use borrow.Fn.Kinds as kinds
use denote.Triple.Clauses
use Rattle.stock_quotes_numbers.specs.contracts.quote_bytes
use Rattle.stock_quotes_numbers.proofs.quote_bytes.Kinds as quote-bytes-kinds
use Rattle.stock_quotes_numbers.proofs.quote_bytes.Reads as quote-bytes-reads
use Rattle.stock_quotes_numbers.specs.contracts.quote_amounts
use Rattle.stock_quotes_numbers.proofs.quote_amounts.Kinds as quote-amounts-kinds
use Rattle.stock_quotes_numbers.proofs.quote_amounts.Reads as quote-amounts-reads
use Rattle.stock_quotes_numbers.specs.contracts.quote_of
use Rattle.stock_quotes_numbers.proofs.quote_of.Kinds as quote-of-kinds
use Rattle.stock_quotes_numbers.proofs.quote_of.Reads as quote-of-reads

pub determined-quote-bytes : (κs : Lifetimes.Lfts 0) (a : World.ArgsD quote_bytes.signature κs) (r₁ r₂ : World.ResD quote_bytes.signature κs)
    (s₁ s₂ : Clauses.AtExit (kinds.ended_of 0 quote-bytes-kinds.ps quote-bytes-kinds.r) κs) → quote-bytes-reads.Post κs a r₁ s₁ → quote-bytes-reads.Post κs a r₂ s₂ → r₁ ≡ r₂
determined-quote-bytes κs a r₁ r₂ s₁ s₂ p q = p ∙ sym q

pub determined-quote-amounts : (κs : Lifetimes.Lfts 0) (a : World.ArgsD quote_amounts.signature κs) (r₁ r₂ : World.ResD quote_amounts.signature κs)
    (s₁ s₂ : Clauses.AtExit (kinds.ended_of 0 quote-amounts-kinds.ps quote-amounts-kinds.r) κs) → quote-amounts-reads.Post κs a r₁ s₁ → quote-amounts-reads.Post κs a r₂ s₂ → r₁ ≡ r₂
determined-quote-amounts κs a r₁ r₂ s₁ s₂ p q = p ∙ sym q

pub determined-quote-of : (κs : Lifetimes.Lfts 2) (a : World.ArgsD quote_of.signature κs) (r₁ r₂ : World.ResD quote_of.signature κs)
    (s₁ s₂ : Clauses.AtExit (kinds.ended_of 2 quote-of-kinds.ps quote-of-kinds.r) κs) → quote-of-reads.Post κs a r₁ s₁ → quote-of-reads.Post κs a r₂ s₂ → r₁ ≡ r₂
determined-quote-of κs a r₁ r₂ s₁ s₂ p q = p ∙ sym q
