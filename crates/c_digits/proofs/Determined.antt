-- The public contracts leave no choice: any two results that they allow are equal, and so is any lent memory afterwards.
use mathlib.Core.Path.{◌≡◌, sym, ◌∙◌}
use contract.Lifetimes
use borrow.Fn.World
use borrow.Fn.Kinds as kinds
use denote.Triple.Clauses
use Rattle.c_digits.specs.contracts.trivsome_two_digits as two_digits
use Rattle.c_digits.proofs.trivsome_two_digits.Kinds as two-digits-kinds
use Rattle.c_digits.proofs.trivsome_two_digits.Reads as two-digits-reads
use Rattle.c_digits.specs.contracts.trivsome_digit_table as table
use Rattle.c_digits.proofs.trivsome_digit_table.Kinds as table-kinds
use Rattle.c_digits.proofs.trivsome_digit_table.Reads as table-reads

-- what `trivsome_two_digits` answers
pub determined-trivsome-two-digits : (κs : Lifetimes.Lfts 0) (a : World.ArgsD two_digits.signature κs) (r₁ r₂ : World.ResD two_digits.signature κs)
    (s₁ s₂ : Clauses.AtExit (kinds.ended_of 0 two-digits-kinds.ps two-digits-kinds.r) κs) → two-digits-reads.Post κs a r₁ s₁ → two-digits-reads.Post κs a r₂ s₂
    → r₁ ≡ r₂
determined-trivsome-two-digits κs a r₁ r₂ s₁ s₂ p q = p ∙ sym q

-- what `trivsome_digit_table` leaves
pub determined-trivsome-digit-table : (κs : Lifetimes.Lfts 1) (a : World.ArgsD table.signature κs) (r₁ r₂ : World.ResD table.signature κs)
    (s₁ s₂ : Clauses.AtExit (kinds.ended_of 1 table-kinds.ps table-kinds.r) κs) → table-reads.Post κs a r₁ s₁ → table-reads.Post κs a r₂ s₂
    → s₁.0.now ≡ s₂.0.now
determined-trivsome-digit-table κs a r₁ r₂ s₁ s₂ p q = p ∙ sym q
