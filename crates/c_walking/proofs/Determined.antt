-- The public contracts leave no choice: any two results that they allow are equal, and so is any lent memory afterwards.
use mathlib.Core.Path.{◌≡◌, sym, ◌∙◌}
use contract.Lifetimes
use borrow.Fn.World
use borrow.Fn.Kinds as kinds
use denote.Triple.Clauses
use Rattle.c_walking.specs.contracts.trivsome_read as read
use Rattle.c_walking.proofs.trivsome_read.Kinds as read-kinds
use Rattle.c_walking.proofs.trivsome_read.Reads as read-reads
use Rattle.c_walking.specs.contracts.trivsome_walk as walk
use Rattle.c_walking.proofs.trivsome_walk.Kinds as walk-kinds
use Rattle.c_walking.proofs.trivsome_walk.Reads as walk-reads
use Rattle.c_walking.specs.contracts.trivsome_move as move
use Rattle.c_walking.proofs.trivsome_move.Kinds as move-kinds
use Rattle.c_walking.proofs.trivsome_move.Reads as move-reads

-- what `trivsome_read` answers
pub determined-trivsome-read : (κs : Lifetimes.Lfts 1) (a : World.ArgsD read.signature κs) (r₁ r₂ : World.ResD read.signature κs)
    (s₁ s₂ : Clauses.AtExit (kinds.ended_of 1 read-kinds.ps read-kinds.r) κs) → read-reads.Post κs a r₁ s₁ → read-reads.Post κs a r₂ s₂
    → r₁ ≡ r₂
determined-trivsome-read κs a r₁ r₂ s₁ s₂ p q = p ∙ sym q

-- what `trivsome_walk` answers, and the lent memory afterwards
pub determined-trivsome-walk : (κs : Lifetimes.Lfts 2) (a : World.ArgsD walk.signature κs) (r₁ r₂ : World.ResD walk.signature κs)
    (s₁ s₂ : Clauses.AtExit (kinds.ended_of 2 walk-kinds.ps walk-kinds.r) κs) → walk-reads.Post κs a r₁ s₁ → walk-reads.Post κs a r₂ s₂
    → (r₁ ≡ r₂) × (s₁.0.now ≡ s₂.0.now)
determined-trivsome-walk κs a r₁ r₂ s₁ s₂ p q = (p.0 ∙ sym q.0, p.1 ∙ sym q.1)

-- what `trivsome_move` answers
pub determined-trivsome-move : (κs : Lifetimes.Lfts 1) (a : World.ArgsD move.signature κs) (r₁ r₂ : World.ResD move.signature κs)
    (s₁ s₂ : Clauses.AtExit (kinds.ended_of 1 move-kinds.ps move-kinds.r) κs) → move-reads.Post κs a r₁ s₁ → move-reads.Post κs a r₂ s₂
    → r₁ ≡ r₂
determined-trivsome-move κs a r₁ r₂ s₁ s₂ p q = p ∙ sym q
