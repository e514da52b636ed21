-- The public contracts leave no choice: any two results that they allow are equal, and so is any lent memory afterwards.
use mathlib.Core.Path.{◌≡◌, sym, ◌∙◌}
use contract.Lifetimes
use borrow.Fn.World
use borrow.Fn.Kinds as kinds
use denote.Triple.Clauses
use Rattle.c_index.specs.contracts.trivsome_read_index_numbers as read-index-numbers
use Rattle.c_index.proofs.trivsome_read_index_numbers.Kinds as read-index-numbers-kinds
use Rattle.c_index.proofs.trivsome_read_index_numbers.Reads as read-index-numbers-reads
use Rattle.c_index.specs.contracts.trivsome_write_index_numbers as write-index-numbers
use Rattle.c_index.proofs.trivsome_write_index_numbers.Kinds as write-index-numbers-kinds
use Rattle.c_index.proofs.trivsome_write_index_numbers.Reads as write-index-numbers-reads

-- what `trivsome_read_index_numbers` answers, and the lent memory afterwards
pub determined-trivsome-read-index-numbers : (κs : Lifetimes.Lfts 4) (a : World.ArgsD read-index-numbers.signature κs) (r₁ r₂ : World.ResD read-index-numbers.signature κs)
    (s₁ s₂ : Clauses.AtExit (kinds.ended_of 4 read-index-numbers-kinds.ps read-index-numbers-kinds.r) κs) → read-index-numbers-reads.Post κs a r₁ s₁ → read-index-numbers-reads.Post κs a r₂ s₂
    → (r₁ ≡ r₂) × (s₁.1.1.0.now ≡ s₂.1.1.0.now) × (s₁.1.1.1.0.now ≡ s₂.1.1.1.0.now) × (s₁.1.1.1.1.0.now ≡ s₂.1.1.1.1.0.now)
determined-trivsome-read-index-numbers κs a r₁ r₂ s₁ s₂ p q = (p.0 ∙ sym q.0, p.1.0 ∙ sym q.1.0, p.1.1.0 ∙ sym q.1.1.0, p.1.1.1 ∙ sym q.1.1.1)

-- what `trivsome_write_index_numbers` answers, and the lent memory afterwards
pub determined-trivsome-write-index-numbers : (κs : Lifetimes.Lfts 4) (a : World.ArgsD write-index-numbers.signature κs) (r₁ r₂ : World.ResD write-index-numbers.signature κs)
    (s₁ s₂ : Clauses.AtExit (kinds.ended_of 4 write-index-numbers-kinds.ps write-index-numbers-kinds.r) κs) → write-index-numbers-reads.Post κs a r₁ s₁ → write-index-numbers-reads.Post κs a r₂ s₂
    → (r₁ ≡ r₂) × (s₁.1.1.1.1.0.now ≡ s₂.1.1.1.1.0.now)
determined-trivsome-write-index-numbers κs a r₁ r₂ s₁ s₂ p q = (p.0 ∙ sym q.0, p.1 ∙ sym q.1)
