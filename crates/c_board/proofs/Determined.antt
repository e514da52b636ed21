-- The public contracts leave no choice: any two results that they allow are equal, and so is any lent memory afterwards.
use mathlib.Core.Path.{◌≡◌, sym, ap, ◌∙◌}
use contract.Lifetimes
use borrow.Fn.World
use borrow.Fn.Kinds as kinds
use denote.Triple.Clauses
use Rattle.stock_board_flat.specs.Flat.{Flat}
use Rattle.c_board.specs.contracts.trivsome_board_clear as clear
use Rattle.c_board.proofs.trivsome_board_clear.Kinds as clear-kinds
use Rattle.c_board.proofs.trivsome_board_clear.Reads as clear_reads
use Rattle.c_board.specs.contracts.trivsome_board_take_numbers as take
use Rattle.c_board.proofs.trivsome_board_take_numbers.Kinds as take-kinds
use Rattle.c_board.proofs.trivsome_board_take_numbers.Reads as take-reads
use Rattle.c_board.specs.contracts.trivsome_board_ask_numbers as ask
use Rattle.c_board.proofs.trivsome_board_ask_numbers.Kinds as ask-kinds
use Rattle.c_board.proofs.trivsome_board_ask_numbers.Reads as ask-reads
use Rattle.c_board.specs.contracts.trivsome_board_row_numbers as row
use Rattle.c_board.proofs.trivsome_board_row_numbers.Kinds as row-kinds
use Rattle.c_board.proofs.trivsome_board_row_numbers.Reads as row_reads
use Rattle.c_board.specs.contracts.trivsome_board_rows as rows
use Rattle.c_board.proofs.trivsome_board_rows.Kinds as rows_kinds
use Rattle.c_board.proofs.trivsome_board_rows.Reads as rows-reads

-- two boards that are the same have the same heads and the same cells
same_lists : {f g : Flat} → f ≡ g → (f.heads ≡ g.heads) × (f.cells ≡ g.cells)
same_lists e = (ap (λ (f : Flat). f.heads) e, ap (λ (f : Flat). f.cells) e)

-- what `trivsome_board_clear` answers, and the board afterwards
pub determined-trivsome-board-clear : (κs : Lifetimes.Lfts 2) (a : World.ArgsD clear.signature κs) (r₁ r₂ : World.ResD clear.signature κs)
    (s₁ s₂ : Clauses.AtExit (kinds.ended_of 2 clear-kinds.ps clear-kinds.r) κs) → clear_reads.Post κs a r₁ s₁ → clear_reads.Post κs a r₂ s₂
    → (r₁ ≡ r₂) × ((s₁.0.now ≡ s₂.0.now) × (s₁.1.0.now ≡ s₂.1.0.now))
determined-trivsome-board-clear κs a r₁ r₂ s₁ s₂ p q = (p.0 ∙ sym q.0, same_lists (p.1 ∙ sym q.1))

-- what `trivsome_board_take_numbers` answers, and the board afterwards
pub determined-trivsome-board-take-numbers : (κs : Lifetimes.Lfts 4) (a : World.ArgsD take.signature κs) (r₁ r₂ : World.ResD take.signature κs)
    (s₁ s₂ : Clauses.AtExit (kinds.ended_of 4 take-kinds.ps take-kinds.r) κs) → take-reads.Post κs a r₁ s₁ → take-reads.Post κs a r₂ s₂
    → (r₁ ≡ r₂) × ((s₁.0.now ≡ s₂.0.now) × (s₁.1.0.now ≡ s₂.1.0.now))
determined-trivsome-board-take-numbers κs a r₁ r₂ s₁ s₂ p q = (p.0 ∙ sym q.0, same_lists (p.1 ∙ sym q.1))

-- what `trivsome_board_ask_numbers` answers, and the lent memory afterwards
pub determined-trivsome-board-ask-numbers : (κs : Lifetimes.Lfts 6) (a : World.ArgsD ask.signature κs) (r₁ r₂ : World.ResD ask.signature κs)
    (s₁ s₂ : Clauses.AtExit (kinds.ended_of 6 ask-kinds.ps ask-kinds.r) κs) → ask-reads.Post κs a r₁ s₁ → ask-reads.Post κs a r₂ s₂
    → (r₁ ≡ r₂) × (s₁.1.1.1.0.now ≡ s₂.1.1.1.0.now) × (s₁.1.1.1.1.0.now ≡ s₂.1.1.1.1.0.now) × (s₁.1.1.1.1.1.0.now ≡ s₂.1.1.1.1.1.0.now)
determined-trivsome-board-ask-numbers κs a r₁ r₂ s₁ s₂ p q = (p.0 ∙ sym q.0, p.1.0 ∙ sym q.1.0, p.1.1.0 ∙ sym q.1.1.0, p.1.1.1 ∙ sym q.1.1.1)

-- what `trivsome_board_row_numbers` answers, and the lent memory afterwards
pub determined-trivsome-board-row-numbers : (κs : Lifetimes.Lfts 5) (a : World.ArgsD row.signature κs) (r₁ r₂ : World.ResD row.signature κs)
    (s₁ s₂ : Clauses.AtExit (kinds.ended_of 5 row-kinds.ps row-kinds.r) κs) → row_reads.Post κs a r₁ s₁ → row_reads.Post κs a r₂ s₂
    → (r₁ ≡ r₂) × (s₁.1.1.1.0.now ≡ s₂.1.1.1.0.now) × (s₁.1.1.1.1.0.now ≡ s₂.1.1.1.1.0.now) × (s₁.1.1.1.1.1.0.now ≡ s₂.1.1.1.1.1.0.now)
determined-trivsome-board-row-numbers κs a r₁ r₂ s₁ s₂ p q = (p.0 ∙ sym q.0, p.1.0 ∙ sym q.1.0, p.1.1.0 ∙ sym q.1.1.0, p.1.1.1 ∙ sym q.1.1.1)

-- what `trivsome_board_rows` answers
pub determined-trivsome-board-rows : (κs : Lifetimes.Lfts 2) (a : World.ArgsD rows.signature κs) (r₁ r₂ : World.ResD rows.signature κs)
    (s₁ s₂ : Clauses.AtExit (kinds.ended_of 2 rows_kinds.ps rows_kinds.r) κs) → rows-reads.Post κs a r₁ s₁ → rows-reads.Post κs a r₂ s₂
    → r₁ ≡ r₂
determined-trivsome-board-rows κs a r₁ r₂ s₁ s₂ p q = p ∙ sym q
