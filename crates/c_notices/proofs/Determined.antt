-- The public contracts leave no choice: any two results that they allow are equal, and so is any lent memory afterwards.
use mathlib.Core.Path.{◌≡◌, sym, ◌∙◌}
use contract.Lifetimes
use borrow.Fn.World
use borrow.Fn.Kinds as kinds
use denote.Triple.Clauses
use Rattle.c_notices.specs.contracts.trivsome_read_notice_numbers as read-notice-numbers
use Rattle.c_notices.proofs.trivsome_read_notice_numbers.Kinds as read-notice-numbers-kinds
use Rattle.c_notices.proofs.trivsome_read_notice_numbers.Reads as read-notice-numbers-reads
use Rattle.c_notices.specs.contracts.trivsome_write_notice_numbers as write-notice-numbers
use Rattle.c_notices.proofs.trivsome_write_notice_numbers.Kinds as write-notice-numbers-kinds
use Rattle.c_notices.proofs.trivsome_write_notice_numbers.Reads as write-notice-numbers-reads

-- what `trivsome_read_notice_numbers` answers, and the lent memory afterwards
pub determined-trivsome-read-notice-numbers : (κs : Lifetimes.Lfts 3) (a : World.ArgsD read-notice-numbers.signature κs) (r₁ r₂ : World.ResD read-notice-numbers.signature κs)
    (s₁ s₂ : Clauses.AtExit (kinds.ended_of 3 read-notice-numbers-kinds.ps read-notice-numbers-kinds.r) κs) → read-notice-numbers-reads.Post κs a r₁ s₁ → read-notice-numbers-reads.Post κs a r₂ s₂
    → (r₁ ≡ r₂) × (s₁.1.1.0.now ≡ s₂.1.1.0.now) × (s₁.1.1.1.0.now ≡ s₂.1.1.1.0.now)
determined-trivsome-read-notice-numbers κs a r₁ r₂ s₁ s₂ p q = (p.0 ∙ sym q.0, p.1.0 ∙ sym q.1.0, p.1.1 ∙ sym q.1.1)

-- what `trivsome_write_notice_numbers` answers, and the lent memory afterwards
pub determined-trivsome-write-notice-numbers : (κs : Lifetimes.Lfts 2) (a : World.ArgsD write-notice-numbers.signature κs) (r₁ r₂ : World.ResD write-notice-numbers.signature κs)
    (s₁ s₂ : Clauses.AtExit (kinds.ended_of 2 write-notice-numbers-kinds.ps write-notice-numbers-kinds.r) κs) → write-notice-numbers-reads.Post κs a r₁ s₁ → write-notice-numbers-reads.Post κs a r₂ s₂
    → (r₁ ≡ r₂) × (s₁.1.1.1.0.now ≡ s₂.1.1.1.0.now)
determined-trivsome-write-notice-numbers κs a r₁ r₂ s₁ s₂ p q = (p.0 ∙ sym q.0, p.1 ∙ sym q.1)
