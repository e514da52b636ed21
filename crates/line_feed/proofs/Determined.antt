-- The public contracts leave no choice: any two results that they allow are equal.
use mathlib.Core.Path.{◌≡◌, sym, ◌∙◌}
use contract.Lifetimes
use borrow.Fn.World
use borrow.Fn.Kinds as kinds
use denote.Triple.Clauses
use Rattle.line_feed.specs.contracts.frames.Frames.fresh as frames-fresh
use Rattle.line_feed.proofs.frames.Frames.fresh.Kinds as frames-fresh-kinds
use Rattle.line_feed.proofs.frames.Frames.fresh.Reads as frames-fresh-reads
use Rattle.line_feed.specs.contracts.moves.Moves.fresh as moves-fresh
use Rattle.line_feed.proofs.moves.Moves.fresh.Kinds as moves-fresh-kinds
use Rattle.line_feed.proofs.moves.Moves.fresh.Reads as moves-fresh-reads
use Rattle.line_feed.specs.contracts.rows.Rows.fresh as rows-fresh
use Rattle.line_feed.proofs.rows.Rows.fresh.Kinds as rows-fresh-kinds
use Rattle.line_feed.proofs.rows.Rows.fresh.Reads as rows-fresh-reads

-- what `Frames::fresh` gives
pub determined-Frames-fresh : (κs : Lifetimes.Lfts 0) (a : World.ArgsD frames-fresh.signature κs) (r₁ r₂ : World.ResD frames-fresh.signature κs)
    (s₁ s₂ : Clauses.AtExit (kinds.ended_of 0 frames-fresh-kinds.ps frames-fresh-kinds.r) κs) → frames-fresh-reads.Post κs a r₁ s₁ → frames-fresh-reads.Post κs a r₂ s₂
    → r₁ ≡ r₂
determined-Frames-fresh κs a r₁ r₂ s₁ s₂ p q = p ∙ sym q

-- what `Moves::fresh` gives
pub determined-Moves-fresh : (κs : Lifetimes.Lfts 0) (a : World.ArgsD moves-fresh.signature κs) (r₁ r₂ : World.ResD moves-fresh.signature κs)
    (s₁ s₂ : Clauses.AtExit (kinds.ended_of 0 moves-fresh-kinds.ps moves-fresh-kinds.r) κs) → moves-fresh-reads.Post κs a r₁ s₁ → moves-fresh-reads.Post κs a r₂ s₂
    → r₁ ≡ r₂
determined-Moves-fresh κs a r₁ r₂ s₁ s₂ p q = p ∙ sym q

-- what `Rows::fresh` gives
pub determined-Rows-fresh : (κs : Lifetimes.Lfts 0) (a : World.ArgsD rows-fresh.signature κs) (r₁ r₂ : World.ResD rows-fresh.signature κs)
    (s₁ s₂ : Clauses.AtExit (kinds.ended_of 0 rows-fresh-kinds.ps rows-fresh-kinds.r) κs) → rows-fresh-reads.Post κs a r₁ s₁ → rows-fresh-reads.Post κs a r₂ s₂
    → r₁ ≡ r₂
determined-Rows-fresh κs a r₁ r₂ s₁ s₂ p q = p ∙ sym q
