-- The public contracts leave no choice: any two results that they allow are equal, and so is any lent memory afterwards.
use mathlib.Core.Path.{◌≡◌, sym, ◌∙◌}
use contract.Lifetimes
use borrow.Fn.World
use borrow.Fn.Kinds as kinds
use denote.Triple.Clauses
use Rattle.c_prices.specs.contracts.trivsome_read_prices_numbers as read-prices-numbers
use Rattle.c_prices.proofs.trivsome_read_prices_numbers.Kinds as read-prices-numbers-kinds
use Rattle.c_prices.proofs.trivsome_read_prices_numbers.Reads as read-prices-numbers-reads
use Rattle.c_prices.specs.contracts.trivsome_write_prices_numbers as write-prices-numbers
use Rattle.c_prices.proofs.trivsome_write_prices_numbers.Kinds as write-prices-numbers-kinds
use Rattle.c_prices.proofs.trivsome_write_prices_numbers.Reads as write-prices-numbers-reads

-- what `trivsome_read_prices_numbers` answers, and the lent memory afterwards
pub determined-trivsome-read-prices-numbers : (κs : Lifetimes.Lfts 5) (a : World.ArgsD read-prices-numbers.signature κs) (r₁ r₂ : World.ResD read-prices-numbers.signature κs)
    (s₁ s₂ : Clauses.AtExit (kinds.ended_of 5 read-prices-numbers-kinds.ps read-prices-numbers-kinds.r) κs) → read-prices-numbers-reads.Post κs a r₁ s₁ → read-prices-numbers-reads.Post κs a r₂ s₂
    → (r₁ ≡ r₂) × (s₁.1.1.0.now ≡ s₂.1.1.0.now) × (s₁.1.1.1.0.now ≡ s₂.1.1.1.0.now) × (s₁.1.1.1.1.0.now ≡ s₂.1.1.1.1.0.now) × (s₁.1.1.1.1.1.0.now ≡ s₂.1.1.1.1.1.0.now)
determined-trivsome-read-prices-numbers κs a r₁ r₂ s₁ s₂ p q = (p.0 ∙ sym q.0, p.1.0 ∙ sym q.1.0, p.1.1.0 ∙ sym q.1.1.0, p.1.1.1.0 ∙ sym q.1.1.1.0, p.1.1.1.1 ∙ sym q.1.1.1.1)

-- what `trivsome_write_prices_numbers` answers, and the lent memory afterwards
pub determined-trivsome-write-prices-numbers : (κs : Lifetimes.Lfts 4) (a : World.ArgsD write-prices-numbers.signature κs) (r₁ r₂ : World.ResD write-prices-numbers.signature κs)
    (s₁ s₂ : Clauses.AtExit (kinds.ended_of 4 write-prices-numbers-kinds.ps write-prices-numbers-kinds.r) κs) → write-prices-numbers-reads.Post κs a r₁ s₁ → write-prices-numbers-reads.Post κs a r₂ s₂
    → (r₁ ≡ r₂) × (s₁.1.1.1.1.1.0.now ≡ s₂.1.1.1.1.1.0.now)
determined-trivsome-write-prices-numbers κs a r₁ r₂ s₁ s₂ p q = (p.0 ∙ sym q.0, p.1 ∙ sym q.1)
