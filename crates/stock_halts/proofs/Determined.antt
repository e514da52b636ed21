-- The public contracts leave no choice: any two results that they allow are equal.
use mathlib.Core.Path.{◌≡◌, sym, ◌∙◌}
use contract.Lifetimes
use borrow.Fn.World
use borrow.Fn.Kinds as kinds
use denote.Triple.Clauses
use Rattle.stock_halts.specs.contracts.empty as none
use Rattle.stock_halts.proofs.empty.Kinds as nown
use Rattle.stock_halts.proofs.empty.Reads as nreads
use Rattle.stock_halts.specs.contracts.rules.code_fits as code
use Rattle.stock_halts.proofs.rules.code_fits.Kinds as kown
use Rattle.stock_halts.proofs.rules.code_fits.Reads as kreads
use Rattle.stock_halts.specs.contracts.rules.count_of as count
use Rattle.stock_halts.proofs.rules.count_of.Kinds as cown
use Rattle.stock_halts.proofs.rules.count_of.Reads as creads

-- what `empty` gives
pub determined-empty : (κs : Lifetimes.Lfts 0) (a : World.ArgsD none.signature κs) (r₁ r₂ : World.ResD none.signature κs)
    (s₁ s₂ : Clauses.AtExit (kinds.ended_of 0 nown.ps nown.r) κs) → nreads.Post κs a r₁ s₁ → nreads.Post κs a r₂ s₂
    → r₁ ≡ r₂
determined-empty κs a r₁ r₂ s₁ s₂ p q = p ∙ sym q

-- what `code_fits` answers
pub determined-code-fits : (κs : Lifetimes.Lfts 1) (a : World.ArgsD code.signature κs) (r₁ r₂ : World.ResD code.signature κs)
    (s₁ s₂ : Clauses.AtExit (kinds.ended_of 1 kown.ps kown.r) κs) → kreads.Post κs a r₁ s₁ → kreads.Post κs a r₂ s₂
    → r₁ ≡ r₂
determined-code-fits κs a r₁ r₂ s₁ s₂ p q = p ∙ sym q

-- what `count_of` gives
pub determined-count-of : (κs : Lifetimes.Lfts 0) (a : World.ArgsD count.signature κs) (r₁ r₂ : World.ResD count.signature κs)
    (s₁ s₂ : Clauses.AtExit (kinds.ended_of 0 cown.ps cown.r) κs) → creads.Post κs a r₁ s₁ → creads.Post κs a r₂ s₂
    → r₁ ≡ r₂
determined-count-of κs a r₁ r₂ s₁ s₂ p q = p ∙ sym q
