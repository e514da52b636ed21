-- The contracts of the table, of reading and writing a field and of its bad halves leave no choice: any two results that they allow are equal.
use mathlib.Core.Path.{◌≡◌, sym, ◌∙◌}
use contract.Lifetimes
use borrow.Fn.World
use borrow.Fn.Kinds as kinds
use denote.Triple.Clauses
use Rattle.digits.specs.contracts.table.table
use Rattle.digits.proofs.table.table.Kinds as town
use Rattle.digits.proofs.table.table.Reads as treads
use Rattle.digits.specs.contracts.table.two_digits as two_digits
use Rattle.digits.proofs.table.two_digits.Kinds as down
use Rattle.digits.proofs.table.two_digits.Reads as dreads
use Rattle.digits.specs.contracts.fields.read_by as read_by_lem
use Rattle.digits.proofs.fields.read_by.Kinds as bown
use Rattle.digits.proofs.fields.read_by.Reads as breads
use Rattle.digits.specs.contracts.fields.read
use Rattle.digits.proofs.fields.read.Kinds as rown
use Rattle.digits.proofs.fields.read.Reads as rreads
use Rattle.digits.specs.contracts.fields.write
use Rattle.digits.proofs.fields.write.Kinds as wown
use Rattle.digits.proofs.fields.write.Reads as wreads
use Rattle.digits.specs.contracts.halves.bad_half as bad-half
use Rattle.digits.proofs.halves.bad_half.Kinds as hown
use Rattle.digits.proofs.halves.bad_half.Reads as hreads

-- the table
pub determined-table : (κs : Lifetimes.Lfts 0) (a : World.ArgsD table.signature κs) (r₁ r₂ : World.ResD table.signature κs)
    (s₁ s₂ : Clauses.AtExit (kinds.ended_of 0 town.ps town.r) κs) → treads.Post κs a r₁ s₁ → treads.Post κs a r₂ s₂
    → r₁ ≡ r₂
determined-table κs a r₁ r₂ s₁ s₂ p q = p ∙ sym q

-- what `two_digits` answers
pub determined-two-digits : (κs : Lifetimes.Lfts 0) (a : World.ArgsD two_digits.signature κs) (r₁ r₂ : World.ResD two_digits.signature κs)
    (s₁ s₂ : Clauses.AtExit (kinds.ended_of 0 down.ps down.r) κs) → dreads.Post κs a r₁ s₁ → dreads.Post κs a r₂ s₂
    → r₁ ≡ r₂
determined-two-digits κs a r₁ r₂ s₁ s₂ p q = p ∙ sym q

-- what `read_by` answers, whatever table it is lent
pub determined-read-by : (κs : Lifetimes.Lfts 2) (a : World.ArgsD read_by_lem.signature κs) (r₁ r₂ : World.ResD read_by_lem.signature κs)
    (s₁ s₂ : Clauses.AtExit (kinds.ended_of 2 bown.ps bown.r) κs) → breads.Post κs a r₁ s₁ → breads.Post κs a r₂ s₂
    → r₁ ≡ r₂
determined-read-by κs a r₁ r₂ s₁ s₂ p q = p ∙ sym q

-- what `read` answers
pub determined-read : (κs : Lifetimes.Lfts 1) (a : World.ArgsD read.signature κs) (r₁ r₂ : World.ResD read.signature κs)
    (s₁ s₂ : Clauses.AtExit (kinds.ended_of 1 rown.ps rown.r) κs) → rreads.Post κs a r₁ s₁ → rreads.Post κs a r₂ s₂
    → r₁ ≡ r₂
determined-read κs a r₁ r₂ s₁ s₂ p q = p ∙ sym q

-- what `write` answers, and the bytes afterwards
pub determined-write : (κs : Lifetimes.Lfts 1) (a : World.ArgsD write.signature κs) (r₁ r₂ : World.ResD write.signature κs)
    (s₁ s₂ : Clauses.AtExit (kinds.ended_of 1 wown.ps wown.r) κs) → wreads.Post κs a r₁ s₁ → wreads.Post κs a r₂ s₂
    → (r₁ ≡ r₂) × (s₁.1.1.0.now ≡ s₂.1.1.0.now)
determined-write κs a r₁ r₂ s₁ s₂ p q = (p.0 ∙ sym q.0, p.1 ∙ sym q.1)

-- what `bad_half` answers
pub determined-bad-half : (κs : Lifetimes.Lfts 1) (a : World.ArgsD bad-half.signature κs) (r₁ r₂ : World.ResD bad-half.signature κs)
    (s₁ s₂ : Clauses.AtExit (kinds.ended_of 1 hown.ps hown.r) κs) → hreads.Post κs a r₁ s₁ → hreads.Post κs a r₂ s₂
    → r₁ ≡ r₂
determined-bad-half κs a r₁ r₂ s₁ s₂ p q = p ∙ sym q
