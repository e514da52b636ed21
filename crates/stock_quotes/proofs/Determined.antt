-- Every public function's contract allows one result: any two that it allows are equal.
use mathlib.Core.Path.{◌≡◌, sym, ◌∙◌}
use contract.Lifetimes
use borrow.Fn.World
use borrow.Fn.Kinds as kinds
use denote.Triple.Clauses
use Rattle.stock_quotes.specs.contracts.empty
use Rattle.stock_quotes.proofs.empty.Kinds as empty-kinds
use Rattle.stock_quotes.proofs.empty.Reads as empty-reads
use Rattle.stock_quotes.specs.contracts.no_pair
use Rattle.stock_quotes.proofs.no_pair.Kinds as pair-kinds
use Rattle.stock_quotes.proofs.no_pair.Reads as Pair-reads
use Rattle.stock_quotes.specs.contracts.timed
use Rattle.stock_quotes.proofs.timed.Kinds as timed-kinds
use Rattle.stock_quotes.proofs.timed.Reads as timed-reads
use Rattle.stock_quotes.specs.contracts.body_length
use Rattle.stock_quotes.proofs.body_length.Kinds as length-kinds
use Rattle.stock_quotes.proofs.body_length.Reads as length-reads
use Rattle.stock_quotes.specs.contracts.Levels.from_byte as levels-from
use Rattle.stock_quotes.proofs.Levels.from_byte.Kinds as from-kinds
use Rattle.stock_quotes.proofs.Levels.from_byte.Reads as from-reads
use Rattle.stock_quotes.specs.contracts.Levels.bit
use Rattle.stock_quotes.proofs.Levels.bit.Kinds as bit-kinds
use Rattle.stock_quotes.proofs.Levels.bit.Reads as bit-reads
use Rattle.stock_quotes.specs.contracts.Reveal.from_byte
use Rattle.stock_quotes.proofs.Reveal.from_byte.Kinds as byte-kinds
use Rattle.stock_quotes.proofs.Reveal.from_byte.Reads as byte-Reads
use Rattle.stock_quotes.specs.contracts.Reveal.levels_right
use Rattle.stock_quotes.proofs.Reveal.levels_right.Kinds as levels-kinds
use Rattle.stock_quotes.proofs.Reveal.levels_right.Reads as levels-reads

pub determined-empty : (κs : Lifetimes.Lfts 0) (a : World.ArgsD empty.signature κs) (r₁ r₂ : World.ResD empty.signature κs)
    (s₁ s₂ : Clauses.AtExit (kinds.ended_of 0 empty-kinds.ps empty-kinds.r) κs) → empty-reads.Post κs a r₁ s₁ → empty-reads.Post κs a r₂ s₂ → r₁ ≡ r₂
determined-empty κs a r₁ r₂ s₁ s₂ p q = p ∙ sym q

pub determined-no-pair : (κs : Lifetimes.Lfts 0) (a : World.ArgsD no_pair.signature κs) (r₁ r₂ : World.ResD no_pair.signature κs)
    (s₁ s₂ : Clauses.AtExit (kinds.ended_of 0 pair-kinds.ps pair-kinds.r) κs) → Pair-reads.Post κs a r₁ s₁ → Pair-reads.Post κs a r₂ s₂ → r₁ ≡ r₂
determined-no-pair κs a r₁ r₂ s₁ s₂ p q = p ∙ sym q

pub determined-timed : (κs : Lifetimes.Lfts 1) (a : World.ArgsD timed.signature κs) (r₁ r₂ : World.ResD timed.signature κs)
    (s₁ s₂ : Clauses.AtExit (kinds.ended_of 1 timed-kinds.ps timed-kinds.r) κs) → timed-reads.Post κs a r₁ s₁ → timed-reads.Post κs a r₂ s₂ → r₁ ≡ r₂
determined-timed κs a r₁ r₂ s₁ s₂ p q = p ∙ sym q

pub determined-body-length : (κs : Lifetimes.Lfts 0) (a : World.ArgsD body_length.signature κs) (r₁ r₂ : World.ResD body_length.signature κs)
    (s₁ s₂ : Clauses.AtExit (kinds.ended_of 0 length-kinds.ps length-kinds.r) κs) → length-reads.Post κs a r₁ s₁ → length-reads.Post κs a r₂ s₂ → r₁ ≡ r₂
determined-body-length κs a r₁ r₂ s₁ s₂ p q = p ∙ sym q

pub determined-Reveal-from-byte : (κs : Lifetimes.Lfts 0) (a : World.ArgsD from_byte.signature κs) (r₁ r₂ : World.ResD from_byte.signature κs)
    (s₁ s₂ : Clauses.AtExit (kinds.ended_of 0 byte-kinds.ps byte-kinds.r) κs) → byte-Reads.Post κs a r₁ s₁ → byte-Reads.Post κs a r₂ s₂ → r₁ ≡ r₂
determined-Reveal-from-byte κs a r₁ r₂ s₁ s₂ p q = p ∙ sym q

pub determined-Reveal-levels-right : (κs : Lifetimes.Lfts 0) (a : World.ArgsD levels_right.signature κs) (r₁ r₂ : World.ResD levels_right.signature κs)
    (s₁ s₂ : Clauses.AtExit (kinds.ended_of 0 levels-kinds.ps levels-kinds.r) κs) → levels-reads.Post κs a r₁ s₁ → levels-reads.Post κs a r₂ s₂ → r₁ ≡ r₂
determined-Reveal-levels-right κs a r₁ r₂ s₁ s₂ p q = p ∙ sym q

pub determined-Levels-from-byte : (κs : Lifetimes.Lfts 0) (a : World.ArgsD levels-from.signature κs) (r₁ r₂ : World.ResD levels-from.signature κs)
    (s₁ s₂ : Clauses.AtExit (kinds.ended_of 0 from-kinds.ps from-kinds.r) κs) → from-reads.Post κs a r₁ s₁ → from-reads.Post κs a r₂ s₂ → r₁ ≡ r₂
determined-Levels-from-byte κs a r₁ r₂ s₁ s₂ p q = p ∙ sym q

pub determined-Levels-bit : (κs : Lifetimes.Lfts 0) (a : World.ArgsD bit.signature κs) (r₁ r₂ : World.ResD bit.signature κs)
    (s₁ s₂ : Clauses.AtExit (kinds.ended_of 0 bit-kinds.ps bit-kinds.r) κs) → bit-reads.Post κs a r₁ s₁ → bit-reads.Post κs a r₂ s₂ → r₁ ≡ r₂
determined-Levels-bit κs a r₁ r₂ s₁ s₂ p q = p ∙ sym q
