-- The public contracts leave no choice: any two results that they allow are equal.
use mathlib.Core.Path.{◌≡◌, sym, ◌∙◌}
use contract.Lifetimes
use borrow.Fn.World
use borrow.Fn.Kinds as kinds
use denote.Triple.Clauses
use Rattle.stock_lines.specs.contracts.frames.next_frame as next-frame
use Rattle.stock_lines.proofs.frames.next_frame.Kinds as next-frame-kinds
use Rattle.stock_lines.proofs.frames.next_frame.Reads as next-frame-reads

-- what `next_frame` answers
pub determined-next-frame : (κs : Lifetimes.Lfts 1) (a : World.ArgsD next-frame.signature κs) (r₁ r₂ : World.ResD next-frame.signature κs)
    (s₁ s₂ : Clauses.AtExit (kinds.ended_of 1 next-frame-kinds.ps next-frame-kinds.r) κs) → next-frame-reads.Post κs a r₁ s₁ → next-frame-reads.Post κs a r₂ s₂
    → r₁ ≡ r₂
determined-next-frame κs a r₁ r₂ s₁ s₂ p q = p ∙ sym q
