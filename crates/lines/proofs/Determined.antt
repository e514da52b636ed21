-- The public contracts leave no choice: any two results that they allow are equal.
use mathlib.Core.Path.{◌≡◌, sym, ◌∙◌}
use contract.Lifetimes
use borrow.Fn.World
use borrow.Fn.Kinds as kinds
use denote.Triple.Clauses
use Rattle.lines.specs.contracts.figures.figures as figures
use Rattle.lines.proofs.figures.figures.Kinds as figures-kinds
use Rattle.lines.proofs.figures.figures.Reads as figures-reads
use Rattle.lines.specs.contracts.figures.walked as walked
use Rattle.lines.proofs.figures.walked.Kinds as walked-kinds
use Rattle.lines.proofs.figures.walked.Reads as walked-reads
use Rattle.lines.specs.contracts.moves.move_at as move_at
use Rattle.lines.proofs.moves.move_at.Kinds as move-at-kinds
use Rattle.lines.proofs.moves.move_at.Reads as move-at-reads
use Rattle.lines.specs.contracts.pieces.stretch_at as stretch-at
use Rattle.lines.proofs.pieces.stretch_at.Kinds as stretch-at-kinds
use Rattle.lines.proofs.pieces.stretch_at.Reads as stretch-at-reads
use Rattle.lines.specs.contracts.pieces.next_rows as next-rows
use Rattle.lines.proofs.pieces.next_rows.Kinds as next-rows-kinds
use Rattle.lines.proofs.pieces.next_rows.Reads as next-rows-reads

-- what `figures` answers
pub determined-figures : (κs : Lifetimes.Lfts 1) (a : World.ArgsD figures.signature κs) (r₁ r₂ : World.ResD figures.signature κs)
    (s₁ s₂ : Clauses.AtExit (kinds.ended_of 1 figures-kinds.ps figures-kinds.r) κs) → figures-reads.Post κs a r₁ s₁ → figures-reads.Post κs a r₂ s₂
    → r₁ ≡ r₂
determined-figures κs a r₁ r₂ s₁ s₂ p q = p ∙ sym q

-- what `walked` answers
pub determined-walked : (κs : Lifetimes.Lfts 1) (a : World.ArgsD walked.signature κs) (r₁ r₂ : World.ResD walked.signature κs)
    (s₁ s₂ : Clauses.AtExit (kinds.ended_of 1 walked-kinds.ps walked-kinds.r) κs) → walked-reads.Post κs a r₁ s₁ → walked-reads.Post κs a r₂ s₂
    → r₁ ≡ r₂
determined-walked κs a r₁ r₂ s₁ s₂ p q = p ∙ sym q

-- what `move_at` answers
pub determined-move-at : (κs : Lifetimes.Lfts 1) (a : World.ArgsD move_at.signature κs) (r₁ r₂ : World.ResD move_at.signature κs)
    (s₁ s₂ : Clauses.AtExit (kinds.ended_of 1 move-at-kinds.ps move-at-kinds.r) κs) → move-at-reads.Post κs a r₁ s₁ → move-at-reads.Post κs a r₂ s₂
    → r₁ ≡ r₂
determined-move-at κs a r₁ r₂ s₁ s₂ p q = p ∙ sym q

-- what `next_rows` answers
pub determined-next-rows : (κs : Lifetimes.Lfts 1) (a : World.ArgsD next-rows.signature κs) (r₁ r₂ : World.ResD next-rows.signature κs)
    (s₁ s₂ : Clauses.AtExit (kinds.ended_of 1 next-rows-kinds.ps next-rows-kinds.r) κs) → next-rows-reads.Post κs a r₁ s₁ → next-rows-reads.Post κs a r₂ s₂
    → r₁ ≡ r₂
determined-next-rows κs a r₁ r₂ s₁ s₂ p q = p ∙ sym q

-- what `stretch_at` answers
pub determined-stretch-at : (κs : Lifetimes.Lfts 1) (a : World.ArgsD stretch-at.signature κs) (r₁ r₂ : World.ResD stretch-at.signature κs)
    (s₁ s₂ : Clauses.AtExit (kinds.ended_of 1 stretch-at-kinds.ps stretch-at-kinds.r) κs) → stretch-at-reads.Post κs a r₁ s₁ → stretch-at-reads.Post κs a r₂ s₂
    → r₁ ≡ r₂
determined-stretch-at κs a r₁ r₂ s₁ s₂ p q = p ∙ sym q
