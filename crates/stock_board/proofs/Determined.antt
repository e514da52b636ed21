-- Every public function's contract allows one result: any two that it allows are equal.
use mathlib.Core.Path.{◌≡◌, sym, ◌∙◌}
use contract.Lifetimes
use borrow.Fn.World
use borrow.Fn.Kinds as kinds
use denote.Triple.Clauses
use Rattle.stock_board.specs.contracts.trade_after as trade-after
use Rattle.stock_board.proofs.trade_after.Kinds as trade-kinds
use Rattle.stock_board.proofs.trade_after.Reads as trade-reads
use Rattle.stock_board.specs.contracts.BoardError.number
use Rattle.stock_board.proofs.BoardError.number.Kinds as number-kinds
use Rattle.stock_board.proofs.BoardError.number.Reads as number-reads
use Rattle.stock_board.specs.contracts.Row.free
use Rattle.stock_board.proofs.Row.free.Kinds as free-kinds
use Rattle.stock_board.proofs.Row.free.Reads as free-reads
use Rattle.stock_board.specs.contracts.Row.after
use Rattle.stock_board.proofs.Row.after.Kinds as after-kinds
use Rattle.stock_board.proofs.Row.after.Reads as after-reads

pub determined-trade-after : (κs : Lifetimes.Lfts 0) (a : World.ArgsD trade-after.signature κs) (r₁ r₂ : World.ResD trade-after.signature κs)
    (s₁ s₂ : Clauses.AtExit (kinds.ended_of 0 trade-kinds.ps trade-kinds.r) κs) → trade-reads.Post κs a r₁ s₁ → trade-reads.Post κs a r₂ s₂ → r₁ ≡ r₂
determined-trade-after κs a r₁ r₂ s₁ s₂ p q = p ∙ sym q

pub determined-BoardError-number : (κs : Lifetimes.Lfts 0) (a : World.ArgsD number.signature κs) (r₁ r₂ : World.ResD number.signature κs)
    (s₁ s₂ : Clauses.AtExit (kinds.ended_of 0 number-kinds.ps number-kinds.r) κs) → number-reads.Post κs a r₁ s₁ → number-reads.Post κs a r₂ s₂ → r₁ ≡ r₂
determined-BoardError-number κs a r₁ r₂ s₁ s₂ p q = p ∙ sym q

pub determined-Row-free : (κs : Lifetimes.Lfts 0) (a : World.ArgsD free.signature κs) (r₁ r₂ : World.ResD free.signature κs)
    (s₁ s₂ : Clauses.AtExit (kinds.ended_of 0 free-kinds.ps free-kinds.r) κs) → free-reads.Post κs a r₁ s₁ → free-reads.Post κs a r₂ s₂ → r₁ ≡ r₂
determined-Row-free κs a r₁ r₂ s₁ s₂ p q = p ∙ sym q

pub determined-Row-after : (κs : Lifetimes.Lfts 0) (a : World.ArgsD after.signature κs) (r₁ r₂ : World.ResD after.signature κs)
    (s₁ s₂ : Clauses.AtExit (kinds.ended_of 0 after-kinds.ps after-kinds.r) κs) → after-reads.Post κs a r₁ s₁ → after-reads.Post κs a r₂ s₂ → r₁ ≡ r₂
determined-Row-after κs a r₁ r₂ s₁ s₂ p q = p ∙ sym q
