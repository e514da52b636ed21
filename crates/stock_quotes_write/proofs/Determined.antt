-- Every public function's contract allows one result, and one content of lent memory: any two that it allows are equal.
use mathlib.Core.Path.{◌≡◌, sym, ◌∙◌}
use contract.Lifetimes
use borrow.Fn.World
use borrow.Fn.Kinds as kinds
use denote.Triple.Clauses
use Rattle.stock_quotes_write.specs.contracts.is_legal
use Rattle.stock_quotes_write.proofs.is_legal.Kinds as legal-kinds
use Rattle.stock_quotes_write.proofs.is_legal.Reads as legal-reads
use Rattle.stock_quotes_write.specs.contracts.write
use Rattle.stock_quotes_write.proofs.write.Kinds as write-kinds
use Rattle.stock_quotes_write.proofs.write.Reads as write-reads

pub determined-is-legal : (κs : Lifetimes.Lfts 0) (a : World.ArgsD is_legal.signature κs) (r₁ r₂ : World.ResD is_legal.signature κs)
    (s₁ s₂ : Clauses.AtExit (kinds.ended_of 0 legal-kinds.ps legal-kinds.r) κs) → legal-reads.Post κs a r₁ s₁ → legal-reads.Post κs a r₂ s₂ → r₁ ≡ r₂
determined-is-legal κs a r₁ r₂ s₁ s₂ p q = p ∙ sym q

pub determined-write : (κs : Lifetimes.Lfts 1) (a : World.ArgsD write.signature κs) (r₁ r₂ : World.ResD write.signature κs)
    (s₁ s₂ : Clauses.AtExit (kinds.ended_of 1 write-kinds.ps write-kinds.r) κs) → write-reads.Post κs a r₁ s₁ → write-reads.Post κs a r₂ s₂
    → (r₁ ≡ r₂) × (s₁.1.0.now ≡ s₂.1.0.now)
determined-write κs a r₁ r₂ s₁ s₂ p q = (p.0 ∙ sym q.0, p.1 ∙ sym q.1)
