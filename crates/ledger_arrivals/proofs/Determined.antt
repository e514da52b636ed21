-- The public contracts leave no choice: any two results that they allow are equal.
use mathlib.Core.Path.{◌≡◌, sym, ap, ◌∙◌}
use contract.Lifetimes
use borrow.Fn.World
use borrow.Fn.Kinds as kinds
use denote.Triple.Clauses
use Rattle.ledger.specs.declared.Arrival.{Arrival}
use Rattle.ledger.specs.declared.Answered.{Answered}
use Rattle.ledger_arrivals.specs.contracts.arrive as arrive
use Rattle.ledger_arrivals.proofs.arrive.Kinds as arrive-kinds
use Rattle.ledger_arrivals.proofs.arrive.Reads as arrive-reads
use Rattle.ledger_arrivals.specs.contracts.arrive_lent as lent
use Rattle.ledger_arrivals.proofs.arrive_lent.Kinds as lent-kinds
use Rattle.ledger_arrivals.proofs.arrive_lent.Reads as Lent-reads

-- what `arrive` answers, the ledger with it
pub determined-arrive : (κs : Lifetimes.Lfts 0) (a : World.ArgsD arrive.signature κs) (r₁ r₂ : World.ResD arrive.signature κs)
    (s₁ s₂ : Clauses.AtExit (kinds.ended_of 0 arrive-kinds.ps arrive-kinds.r) κs) → arrive-reads.Post κs a r₁ s₁ → arrive-reads.Post κs a r₂ s₂
    → r₁ ≡ r₂
determined-arrive κs a r₁ r₂ s₁ s₂ p q = p ∙ sym q

-- what `arrive_lent` answers, and the ends afterwards
pub determined-arrive-lent : (κs : Lifetimes.Lfts 1) (a : World.ArgsD lent.signature κs) (r₁ r₂ : World.ResD lent.signature κs)
    (s₁ s₂ : Clauses.AtExit (kinds.ended_of 1 lent-kinds.ps lent-kinds.r) κs) → Lent-reads.Post κs a r₁ s₁ → Lent-reads.Post κs a r₂ s₂
    → (r₁ ≡ r₂) × (s₁.0.now ≡ s₂.0.now)
determined-arrive-lent κs a r₁ r₂ s₁ s₂ p q =
    let same = p ∙ sym q in
    (ap (λ (x : Answered Arrival). x.answer) same, ap (λ (x : Answered Arrival). x.ledger.ends) same)
