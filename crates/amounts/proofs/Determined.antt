-- Every public function's contract allows one result: any two that it allows are equal.
use mathlib.Core.Path.{◌≡◌, sym, ◌∙◌}
use contract.Lifetimes
use borrow.Fn.World
use borrow.Fn.Kinds as kinds
use denote.Triple.Clauses
use Rattle.amounts.specs.contracts.Price.from_digits as price
use Rattle.amounts.proofs.Price.from_digits.Kinds as price-kinds
use Rattle.amounts.proofs.Price.from_digits.Reads as price-reads
use Rattle.amounts.specs.contracts.Quantity.from_digits as quantity
use Rattle.amounts.proofs.Quantity.from_digits.Kinds as quantity-kinds
use Rattle.amounts.proofs.Quantity.from_digits.Reads as quantity-reads
use Rattle.amounts.specs.contracts.Pair.from_digits as pair
use Rattle.amounts.proofs.Pair.from_digits.Kinds as pair-kinds
use Rattle.amounts.proofs.Pair.from_digits.Reads as Pair-reads

pub determined-Price-from-digits : (κs : Lifetimes.Lfts 1) (a : World.ArgsD price.signature κs) (r₁ r₂ : World.ResD price.signature κs)
    (s₁ s₂ : Clauses.AtExit (kinds.ended_of 1 price-kinds.ps price-kinds.r) κs) → price-reads.Post κs a r₁ s₁ → price-reads.Post κs a r₂ s₂ → r₁ ≡ r₂
determined-Price-from-digits κs a r₁ r₂ s₁ s₂ p q = p ∙ sym q

pub determined-Quantity-from-digits : (κs : Lifetimes.Lfts 1) (a : World.ArgsD quantity.signature κs) (r₁ r₂ : World.ResD quantity.signature κs)
    (s₁ s₂ : Clauses.AtExit (kinds.ended_of 1 quantity-kinds.ps quantity-kinds.r) κs) → quantity-reads.Post κs a r₁ s₁ → quantity-reads.Post κs a r₂ s₂ → r₁ ≡ r₂
determined-Quantity-from-digits κs a r₁ r₂ s₁ s₂ p q = p ∙ sym q

pub determined-Pair-from-digits : (κs : Lifetimes.Lfts 1) (a : World.ArgsD pair.signature κs) (r₁ r₂ : World.ResD pair.signature κs)
    (s₁ s₂ : Clauses.AtExit (kinds.ended_of 1 pair-kinds.ps pair-kinds.r) κs) → Pair-reads.Post κs a r₁ s₁ → Pair-reads.Post κs a r₂ s₂ → r₁ ≡ r₂
determined-Pair-from-digits κs a r₁ r₂ s₁ s₂ p q = p ∙ sym q
