-- The public contracts leave no choice: any two results that they allow are equal, and so is any lent memory afterwards.
use mathlib.Core.Path.{◌≡◌, sym, ◌∙◌}
use contract.Lifetimes
use borrow.Fn.World
use borrow.Fn.Kinds as kinds
use denote.Triple.Clauses
use Rattle.c_halts.specs.contracts.trivsome_read_halt_numbers as read-halt-numbers
use Rattle.c_halts.proofs.trivsome_read_halt_numbers.Kinds as read-halt-numbers-kinds
use Rattle.c_halts.proofs.trivsome_read_halt_numbers.Reads as read-halt-numbers-reads
use Rattle.c_halts.specs.contracts.trivsome_write_halt_numbers as write-halt-numbers
use Rattle.c_halts.proofs.trivsome_write_halt_numbers.Kinds as write-halt-numbers-kinds
use Rattle.c_halts.proofs.trivsome_write_halt_numbers.Reads as write-halt-numbers-reads

-- what `trivsome_read_halt_numbers` answers, and the lent memory afterwards
pub determined-trivsome-read-halt-numbers : (κs : Lifetimes.Lfts 3) (a : World.ArgsD read-halt-numbers.signature κs) (r₁ r₂ : World.ResD read-halt-numbers.signature κs)
    (s₁ s₂ : Clauses.AtExit (kinds.ended_of 3 read-halt-numbers-kinds.ps read-halt-numbers-kinds.r) κs) → read-halt-numbers-reads.Post κs a r₁ s₁ → read-halt-numbers-reads.Post κs a r₂ s₂
    → (r₁ ≡ r₂) × (s₁.1.1.0.now ≡ s₂.1.1.0.now) × (s₁.1.1.1.0.now ≡ s₂.1.1.1.0.now)
determined-trivsome-read-halt-numbers κs a r₁ r₂ s₁ s₂ p q = (p.0 ∙ sym q.0, p.1.0 ∙ sym q.1.0, p.1.1 ∙ sym q.1.1)

-- what `trivsome_write_halt_numbers` answers, and the lent memory afterwards
pub determined-trivsome-write-halt-numbers : (κs : Lifetimes.Lfts 3) (a : World.ArgsD write-halt-numbers.signature κs) (r₁ r₂ : World.ResD write-halt-numbers.signature κs)
    (s₁ s₂ : Clauses.AtExit (kinds.ended_of 3 write-halt-numbers-kinds.ps write-halt-numbers-kinds.r) κs) → write-halt-numbers-reads.Post κs a r₁ s₁ → write-halt-numbers-reads.Post κs a r₂ s₂
    → (r₁ ≡ r₂) × (s₁.1.1.1.0.now ≡ s₂.1.1.1.0.now)
determined-trivsome-write-halt-numbers κs a r₁ r₂ s₁ s₂ p q = (p.0 ∙ sym q.0, p.1 ∙ sym q.1)
