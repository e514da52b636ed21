-- The public contracts leave no choice: any two results that they allow are equal.
use mathlib.Core.Path.{◌≡◌, sym, ap, ◌∙◌}
use contract.Lifetimes
use borrow.Fn.World
use borrow.Fn.Kinds as kinds
use denote.Triple.Clauses
use Rattle.ledger.specs.declared.Run.{Run}
use Rattle.ledger.specs.declared.Answered.{Answered}
use Rattle.ledger_give_up.specs.contracts.give_up as give-up
use Rattle.ledger_give_up.proofs.give_up.Kinds as give-up-kinds
use Rattle.ledger_give_up.proofs.give_up.Reads as give-up-reads
use Rattle.ledger_give_up.specs.contracts.give_up_lent as lent
use Rattle.ledger_give_up.proofs.give_up_lent.Kinds as lent-kinds
use Rattle.ledger_give_up.proofs.give_up_lent.Reads as Lent-reads

-- what `give_up` answers, the ledger with it
pub determined-give-up : (κs : Lifetimes.Lfts 0) (a : World.ArgsD give-up.signature κs) (r₁ r₂ : World.ResD give-up.signature κs)
    (s₁ s₂ : Clauses.AtExit (kinds.ended_of 0 give-up-kinds.ps give-up-kinds.r) κs) → give-up-reads.Post κs a r₁ s₁ → give-up-reads.Post κs a r₂ s₂
    → r₁ ≡ r₂
determined-give-up κs a r₁ r₂ s₁ s₂ p q = p ∙ sym q

-- what `give_up_lent` answers, and the lent ledger afterwards
pub determined-give-up-lent : (κs : Lifetimes.Lfts 3) (a : World.ArgsD lent.signature κs) (r₁ r₂ : World.ResD lent.signature κs)
    (s₁ s₂ : Clauses.AtExit (kinds.ended_of 3 lent-kinds.ps lent-kinds.r) κs) → Lent-reads.Post κs a r₁ s₁ → Lent-reads.Post κs a r₂ s₂
    → (r₁ ≡ r₂) × (s₁.0.now ≡ s₂.0.now) × (s₁.1.0.now ≡ s₂.1.0.now) × (s₁.1.1.0.now ≡ s₂.1.1.0.now)
determined-give-up-lent κs a r₁ r₂ s₁ s₂ p q =
    let same = p ∙ sym q in (
      ap (λ (x : Answered Run). x.answer) same,
      ap (λ (x : Answered Run). x.ledger.ends) same,
      ap (λ (x : Answered Run). x.ledger.floor) same,
      ap (λ (x : Answered Run). x.ledger.given) same,
    )
