-- The public contracts leave no choice: any two results that they allow are equal.
use mathlib.Core.Path.{◌≡◌, sym, ◌∙◌}
use contract.Lifetimes
use borrow.Fn.World
use borrow.Fn.Kinds as kinds
use denote.Triple.Clauses
use Rattle.ledger.specs.contracts.clear as clear
use Rattle.ledger.proofs.clear.Kinds as clear-kinds
use Rattle.ledger.proofs.clear.Reads as clear_reads
use Rattle.ledger.specs.contracts.LedgerError.number as number
use Rattle.ledger.proofs.LedgerError.number.Kinds as number-kinds
use Rattle.ledger.proofs.LedgerError.number.Reads as number-reads

-- what `clear` gives
pub determined-clear : (κs : Lifetimes.Lfts 0) (a : World.ArgsD clear.signature κs) (r₁ r₂ : World.ResD clear.signature κs)
    (s₁ s₂ : Clauses.AtExit (kinds.ended_of 0 clear-kinds.ps clear-kinds.r) κs) → clear_reads.Post κs a r₁ s₁ → clear_reads.Post κs a r₂ s₂
    → r₁ ≡ r₂
determined-clear κs a r₁ r₂ s₁ s₂ p q = p ∙ sym q

-- what `number` gives
pub determined-LedgerError-number : (κs : Lifetimes.Lfts 0) (a : World.ArgsD number.signature κs) (r₁ r₂ : World.ResD number.signature κs)
    (s₁ s₂ : Clauses.AtExit (kinds.ended_of 0 number-kinds.ps number-kinds.r) κs) → number-reads.Post κs a r₁ s₁ → number-reads.Post κs a r₂ s₂
    → r₁ ≡ r₂
determined-LedgerError-number κs a r₁ r₂ s₁ s₂ p q = p ∙ sym q
