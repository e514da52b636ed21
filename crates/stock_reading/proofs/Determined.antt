-- The public contracts leave no choice: any two results that they allow are equal.
use mathlib.Core.Path.{◌≡◌, sym, ◌∙◌}
use contract.Lifetimes
use borrow.Fn.World
use borrow.Fn.Kinds as kinds
use denote.Triple.Clauses
use Rattle.stock_reading.specs.contracts.reading.read as read
use Rattle.stock_reading.proofs.reading.read.Kinds as read-kinds
use Rattle.stock_reading.proofs.reading.read.Reads as read-reads
use Rattle.stock_reading.specs.contracts.reading.read_notice as read-notice
use Rattle.stock_reading.proofs.reading.read_notice.Kinds as read-notice-kinds
use Rattle.stock_reading.proofs.reading.read_notice.Reads as read-notice-reads
use Rattle.stock_reading.specs.contracts.reading.read_quote as read-quote
use Rattle.stock_reading.proofs.reading.read_quote.Kinds as read-quote-kinds
use Rattle.stock_reading.proofs.reading.read_quote.Reads as read-quote-reads
use Rattle.stock_reading.specs.contracts.reading.read_prices as read-prices
use Rattle.stock_reading.proofs.reading.read_prices.Kinds as read-prices-kinds
use Rattle.stock_reading.proofs.reading.read_prices.Reads as read-prices-reads
use Rattle.stock_reading.specs.contracts.reading.read_halt as read-halt
use Rattle.stock_reading.proofs.reading.read_halt.Kinds as read-halt-kinds
use Rattle.stock_reading.proofs.reading.read_halt.Reads as read-halt-reads

-- what `read` answers
pub determined-read : (κs : Lifetimes.Lfts 1) (a : World.ArgsD read.signature κs) (r₁ r₂ : World.ResD read.signature κs)
    (s₁ s₂ : Clauses.AtExit (kinds.ended_of 1 read-kinds.ps read-kinds.r) κs) → read-reads.Post κs a r₁ s₁ → read-reads.Post κs a r₂ s₂
    → r₁ ≡ r₂
determined-read κs a r₁ r₂ s₁ s₂ p q = p ∙ sym q

-- what `read_notice` answers
pub determined-read-notice : (κs : Lifetimes.Lfts 1) (a : World.ArgsD read-notice.signature κs) (r₁ r₂ : World.ResD read-notice.signature κs)
    (s₁ s₂ : Clauses.AtExit (kinds.ended_of 1 read-notice-kinds.ps read-notice-kinds.r) κs) → read-notice-reads.Post κs a r₁ s₁ → read-notice-reads.Post κs a r₂ s₂
    → r₁ ≡ r₂
determined-read-notice κs a r₁ r₂ s₁ s₂ p q = p ∙ sym q

-- what `read_quote` answers
pub determined-read-quote : (κs : Lifetimes.Lfts 1) (a : World.ArgsD read-quote.signature κs) (r₁ r₂ : World.ResD read-quote.signature κs)
    (s₁ s₂ : Clauses.AtExit (kinds.ended_of 1 read-quote-kinds.ps read-quote-kinds.r) κs) → read-quote-reads.Post κs a r₁ s₁ → read-quote-reads.Post κs a r₂ s₂
    → r₁ ≡ r₂
determined-read-quote κs a r₁ r₂ s₁ s₂ p q = p ∙ sym q

-- what `read_prices` answers
pub determined-read-prices : (κs : Lifetimes.Lfts 1) (a : World.ArgsD read-prices.signature κs) (r₁ r₂ : World.ResD read-prices.signature κs)
    (s₁ s₂ : Clauses.AtExit (kinds.ended_of 1 read-prices-kinds.ps read-prices-kinds.r) κs) → read-prices-reads.Post κs a r₁ s₁ → read-prices-reads.Post κs a r₂ s₂
    → r₁ ≡ r₂
determined-read-prices κs a r₁ r₂ s₁ s₂ p q = p ∙ sym q

-- what `read_halt` answers
pub determined-read-halt : (κs : Lifetimes.Lfts 1) (a : World.ArgsD read-halt.signature κs) (r₁ r₂ : World.ResD read-halt.signature κs)
    (s₁ s₂ : Clauses.AtExit (kinds.ended_of 1 read-halt-kinds.ps read-halt-kinds.r) κs) → read-halt-reads.Post κs a r₁ s₁ → read-halt-reads.Post κs a r₂ s₂
    → r₁ ≡ r₂
determined-read-halt κs a r₁ r₂ s₁ s₂ p q = p ∙ sym q
