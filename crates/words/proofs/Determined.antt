-- Every public function's contract allows one result: any two that it allows are equal.
use mathlib.Core.Path.{◌≡◌, sym, ◌∙◌}
use contract.Lifetimes
use borrow.Fn.World
use borrow.Fn.Kinds as kinds
use denote.Triple.Clauses
use Rattle.words.specs.contracts.xor.xor_of as xor
use Rattle.words.proofs.xor.xor_of.Kinds as xor-kinds
use Rattle.words.proofs.xor.xor_of.Reads as xor-reads
use Rattle.words.specs.contracts.blocks.eight_at as eight
use Rattle.words.proofs.blocks.eight_at.Kinds as eight-kinds
use Rattle.words.proofs.blocks.eight_at.Reads as eight-reads
use Rattle.words.specs.contracts.blocks.four_at as four
use Rattle.words.proofs.blocks.four_at.Kinds as four-kinds
use Rattle.words.proofs.blocks.four_at.Reads as four-reads
use Rattle.words.specs.contracts.blocks.six_at as six
use Rattle.words.proofs.blocks.six_at.Kinds as six-kinds
use Rattle.words.proofs.blocks.six_at.Reads as six-reads

pub determined-xor-of : (κs : Lifetimes.Lfts 1) (a : World.ArgsD xor.signature κs) (r₁ r₂ : World.ResD xor.signature κs)
    (s₁ s₂ : Clauses.AtExit (kinds.ended_of 1 xor-kinds.ps xor-kinds.r) κs) → xor-reads.Post κs a r₁ s₁ → xor-reads.Post κs a r₂ s₂ → r₁ ≡ r₂
determined-xor-of κs a r₁ r₂ s₁ s₂ p q = p ∙ sym q

pub determined-eight-at : (κs : Lifetimes.Lfts 1) (a : World.ArgsD eight.signature κs) (r₁ r₂ : World.ResD eight.signature κs)
    (s₁ s₂ : Clauses.AtExit (kinds.ended_of 1 eight-kinds.ps eight-kinds.r) κs) → eight-reads.Post κs a r₁ s₁ → eight-reads.Post κs a r₂ s₂ → r₁ ≡ r₂
determined-eight-at κs a r₁ r₂ s₁ s₂ p q = p ∙ sym q

pub determined-four-at : (κs : Lifetimes.Lfts 1) (a : World.ArgsD four.signature κs) (r₁ r₂ : World.ResD four.signature κs)
    (s₁ s₂ : Clauses.AtExit (kinds.ended_of 1 four-kinds.ps four-kinds.r) κs) → four-reads.Post κs a r₁ s₁ → four-reads.Post κs a r₂ s₂ → r₁ ≡ r₂
determined-four-at κs a r₁ r₂ s₁ s₂ p q = p ∙ sym q

pub determined-six-at : (κs : Lifetimes.Lfts 1) (a : World.ArgsD six.signature κs) (r₁ r₂ : World.ResD six.signature κs)
    (s₁ s₂ : Clauses.AtExit (kinds.ended_of 1 six-kinds.ps six-kinds.r) κs) → six-reads.Post κs a r₁ s₁ → six-reads.Post κs a r₂ s₂ → r₁ ≡ r₂
determined-six-at κs a r₁ r₂ s₁ s₂ p q = p ∙ sym q
