-- Every public function's contract allows one result, and one content of lent memory: any two that it allows are equal.
use mathlib.Core.Path.{◌≡◌, sym, ◌∙◌}
use contract.Lifetimes
use borrow.Fn.World
use borrow.Fn.Kinds as kinds
use denote.Triple.Clauses
use Rattle.stock_board_flat.specs.Steps.{flat}
use Rattle.stock_board_flat.specs.contracts.clear as clear
use Rattle.stock_board_flat.proofs.clear.Kinds as clear-kinds
use Rattle.stock_board_flat.proofs.clear.Reads as clear_reads
use Rattle.stock_board_flat.specs.contracts.take as take
use Rattle.stock_board_flat.proofs.take.Kinds as take-kinds
use Rattle.stock_board_flat.proofs.take.Reads as take-reads
use Rattle.stock_board_flat.specs.contracts.ask as ask
use Rattle.stock_board_flat.proofs.ask.Kinds as ask-kinds
use Rattle.stock_board_flat.proofs.ask.Reads as ask-reads
use Rattle.stock_board_flat.specs.contracts.row_at as row_at
use Rattle.stock_board_flat.proofs.row_at.Kinds as row-at-kinds
use Rattle.stock_board_flat.proofs.row_at.Reads as row-at-reads
use Rattle.stock_board_flat.specs.contracts.keeping.kept as kept
use Rattle.stock_board_flat.proofs.keeping.kept.Kinds as kept-kinds
use Rattle.stock_board_flat.proofs.keeping.kept.Reads as kept-reads
use Rattle.stock_board_flat.specs.contracts.in_use as in_use
use Rattle.stock_board_flat.proofs.in_use.Kinds as in-use-kinds
use Rattle.stock_board_flat.proofs.in_use.Reads as in-use-reads

pub determined-clear : (κs : Lifetimes.Lfts 2) (a : World.ArgsD clear.signature κs) (r₁ r₂ : World.ResD clear.signature κs)
    (s₁ s₂ : Clauses.AtExit (kinds.ended_of 2 clear-kinds.ps clear-kinds.r) κs) → clear_reads.Post κs a r₁ s₁ → clear_reads.Post κs a r₂ s₂
    → (r₁ ≡ r₂) × (flat s₁.0.now s₁.1.0.now ≡ flat s₂.0.now s₂.1.0.now)
determined-clear κs a r₁ r₂ s₁ s₂ p q = (p.0 ∙ sym q.0, p.1 ∙ sym q.1)

pub determined-take : (κs : Lifetimes.Lfts 2) (a : World.ArgsD take.signature κs) (r₁ r₂ : World.ResD take.signature κs)
    (s₁ s₂ : Clauses.AtExit (kinds.ended_of 2 take-kinds.ps take-kinds.r) κs) → take-reads.Post κs a r₁ s₁ → take-reads.Post κs a r₂ s₂
    → (r₁ ≡ r₂) × (flat s₁.0.now s₁.1.0.now ≡ flat s₂.0.now s₂.1.0.now)
determined-take κs a r₁ r₂ s₁ s₂ p q = (p.0 ∙ sym q.0, p.1 ∙ sym q.1)

pub determined-ask : (κs : Lifetimes.Lfts 2) (a : World.ArgsD ask.signature κs) (r₁ r₂ : World.ResD ask.signature κs)
    (s₁ s₂ : Clauses.AtExit (kinds.ended_of 2 ask-kinds.ps ask-kinds.r) κs) → ask-reads.Post κs a r₁ s₁ → ask-reads.Post κs a r₂ s₂
    → r₁ ≡ r₂
determined-ask κs a r₁ r₂ s₁ s₂ p q = p ∙ sym q

pub determined-row-at : (κs : Lifetimes.Lfts 2) (a : World.ArgsD row_at.signature κs) (r₁ r₂ : World.ResD row_at.signature κs)
    (s₁ s₂ : Clauses.AtExit (kinds.ended_of 2 row-at-kinds.ps row-at-kinds.r) κs) → row-at-reads.Post κs a r₁ s₁ → row-at-reads.Post κs a r₂ s₂
    → r₁ ≡ r₂
determined-row-at κs a r₁ r₂ s₁ s₂ p q = p ∙ sym q

pub determined-in-use : (κs : Lifetimes.Lfts 2) (a : World.ArgsD in_use.signature κs) (r₁ r₂ : World.ResD in_use.signature κs)
    (s₁ s₂ : Clauses.AtExit (kinds.ended_of 2 in-use-kinds.ps in-use-kinds.r) κs) → in-use-reads.Post κs a r₁ s₁ → in-use-reads.Post κs a r₂ s₂
    → r₁ ≡ r₂
determined-in-use κs a r₁ r₂ s₁ s₂ p q = p ∙ sym q

pub determined-kept : (κs : Lifetimes.Lfts 0) (a : World.ArgsD kept.signature κs) (r₁ r₂ : World.ResD kept.signature κs)
    (s₁ s₂ : Clauses.AtExit (kinds.ended_of 0 kept-kinds.ps kept-kinds.r) κs) → kept-reads.Post κs a r₁ s₁ → kept-reads.Post κs a r₂ s₂
    → r₁ ≡ r₂
determined-kept κs a r₁ r₂ s₁ s₂ p q = p ∙ sym q
