-- The public contracts leave no choice: any two results that they allow are equal, and so is any lent memory afterwards.
use mathlib.Core.Path.{◌≡◌, sym, ◌∙◌}
use contract.Lifetimes
use borrow.Fn.World
use borrow.Fn.Kinds as kinds
use denote.Triple.Clauses
use Rattle.c_quotes.specs.contracts.trivsome_read_quote_numbers as read-quote-numbers
use Rattle.c_quotes.proofs.trivsome_read_quote_numbers.Kinds as read-quote-numbers-kinds
use Rattle.c_quotes.proofs.trivsome_read_quote_numbers.Reads as read-quote-numbers-reads
use Rattle.c_quotes.specs.contracts.trivsome_write_quote_numbers as write-quote-numbers
use Rattle.c_quotes.proofs.trivsome_write_quote_numbers.Kinds as write-quote-numbers-kinds
use Rattle.c_quotes.proofs.trivsome_write_quote_numbers.Reads as write-quote-numbers-reads

-- what `trivsome_read_quote_numbers` answers, and the lent memory afterwards
pub determined-trivsome-read-quote-numbers : (κs : Lifetimes.Lfts 4) (a : World.ArgsD read-quote-numbers.signature κs) (r₁ r₂ : World.ResD read-quote-numbers.signature κs)
    (s₁ s₂ : Clauses.AtExit (kinds.ended_of 4 read-quote-numbers-kinds.ps read-quote-numbers-kinds.r) κs) → read-quote-numbers-reads.Post κs a r₁ s₁ → read-quote-numbers-reads.Post κs a r₂ s₂
    → (r₁ ≡ r₂) × (s₁.1.1.0.now ≡ s₂.1.1.0.now) × (s₁.1.1.1.0.now ≡ s₂.1.1.1.0.now) × (s₁.1.1.1.1.0.now ≡ s₂.1.1.1.1.0.now)
determined-trivsome-read-quote-numbers κs a r₁ r₂ s₁ s₂ p q = (p.0 ∙ sym q.0, p.1.0 ∙ sym q.1.0, p.1.1.0 ∙ sym q.1.1.0, p.1.1.1 ∙ sym q.1.1.1)

-- what `trivsome_write_quote_numbers` answers, and the lent memory afterwards
pub determined-trivsome-write-quote-numbers : (κs : Lifetimes.Lfts 3) (a : World.ArgsD write-quote-numbers.signature κs) (r₁ r₂ : World.ResD write-quote-numbers.signature κs)
    (s₁ s₂ : Clauses.AtExit (kinds.ended_of 3 write-quote-numbers-kinds.ps write-quote-numbers-kinds.r) κs) → write-quote-numbers-reads.Post κs a r₁ s₁ → write-quote-numbers-reads.Post κs a r₂ s₂
    → (r₁ ≡ r₂) × (s₁.1.1.1.1.0.now ≡ s₂.1.1.1.1.0.now)
determined-trivsome-write-quote-numbers κs a r₁ r₂ s₁ s₂ p q = (p.0 ∙ sym q.0, p.1 ∙ sym q.1)
