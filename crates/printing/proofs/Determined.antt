-- The public contracts leave no choice: any two results that they allow are equal.
use mathlib.Core.Path.{◌≡◌, sym, ◌∙◌}
use contract.Lifetimes
use borrow.Fn.World
use borrow.Fn.Kinds as kinds
use denote.Triple.Clauses
use Rattle.printing.specs.contracts.put as put
use Rattle.printing.proofs.put.Kinds as put-kinds
use Rattle.printing.proofs.put.Reads as put_reads
use Rattle.printing.specs.contracts.put_all as put_all_lem
use Rattle.printing.proofs.put_all.Kinds as put-all-kinds
use Rattle.printing.proofs.put_all.Reads as put-all-reads
use Rattle.printing.specs.contracts.put_number as put-number
use Rattle.printing.proofs.put_number.Kinds as put-number-kinds
use Rattle.printing.proofs.put_number.Reads as put-number-reads
use Rattle.printing.specs.contracts.put_field as put-field
use Rattle.printing.proofs.put_field.Kinds as put-field-kinds
use Rattle.printing.proofs.put_field.Reads as put-field-reads
use Rattle.printing.specs.contracts.moving.move_down as move_down
use Rattle.printing.proofs.moving.move_down.Kinds as move-down-kinds
use Rattle.printing.proofs.moving.move_down.Reads as move-down-reads

-- the place that `put` answers, and the buffer afterwards
pub determined-put : (κs : Lifetimes.Lfts 1) (a : World.ArgsD put.signature κs) (r₁ r₂ : World.ResD put.signature κs)
    (s₁ s₂ : Clauses.AtExit (kinds.ended_of 1 put-kinds.ps put-kinds.r) κs) → put_reads.Post κs a r₁ s₁ → put_reads.Post κs a r₂ s₂
    → (r₁ ≡ r₂) × (s₁.0.now ≡ s₂.0.now)
determined-put κs a r₁ r₂ s₁ s₂ p q = (p.0 ∙ sym q.0, p.1 ∙ sym q.1)

-- the same of `put_all`
pub determined-put-all : (κs : Lifetimes.Lfts 2) (a : World.ArgsD put_all_lem.signature κs) (r₁ r₂ : World.ResD put_all_lem.signature κs)
    (s₁ s₂ : Clauses.AtExit (kinds.ended_of 2 put-all-kinds.ps put-all-kinds.r) κs) → put-all-reads.Post κs a r₁ s₁ → put-all-reads.Post κs a r₂ s₂
    → (r₁ ≡ r₂) × (s₁.0.now ≡ s₂.0.now)
determined-put-all κs a r₁ r₂ s₁ s₂ p q = (p.0 ∙ sym q.0, p.1 ∙ sym q.1)

-- the same of `put_number`
pub determined-put-number : (κs : Lifetimes.Lfts 1) (a : World.ArgsD put-number.signature κs) (r₁ r₂ : World.ResD put-number.signature κs)
    (s₁ s₂ : Clauses.AtExit (kinds.ended_of 1 put-number-kinds.ps put-number-kinds.r) κs) → put-number-reads.Post κs a r₁ s₁ → put-number-reads.Post κs a r₂ s₂
    → (r₁ ≡ r₂) × (s₁.0.now ≡ s₂.0.now)
determined-put-number κs a r₁ r₂ s₁ s₂ p q = (p.0 ∙ sym q.0, p.1 ∙ sym q.1)

-- the same of `put_field`
pub determined-put-field : (κs : Lifetimes.Lfts 1) (a : World.ArgsD put-field.signature κs) (r₁ r₂ : World.ResD put-field.signature κs)
    (s₁ s₂ : Clauses.AtExit (kinds.ended_of 1 put-field-kinds.ps put-field-kinds.r) κs) → put-field-reads.Post κs a r₁ s₁ → put-field-reads.Post κs a r₂ s₂
    → (r₁ ≡ r₂) × (s₁.0.now ≡ s₂.0.now)
determined-put-field κs a r₁ r₂ s₁ s₂ p q = (p.0 ∙ sym q.0, p.1 ∙ sym q.1)

-- how many bytes `move_down` moved, and the buffer afterwards
pub determined-move-down : (κs : Lifetimes.Lfts 1) (a : World.ArgsD move_down.signature κs) (r₁ r₂ : World.ResD move_down.signature κs)
    (s₁ s₂ : Clauses.AtExit (kinds.ended_of 1 move-down-kinds.ps move-down-kinds.r) κs) → move-down-reads.Post κs a r₁ s₁ → move-down-reads.Post κs a r₂ s₂
    → (r₁ ≡ r₂) × (s₁.0.now ≡ s₂.0.now)
determined-move-down κs a r₁ r₂ s₁ s₂ p q = (p.0 ∙ sym q.0, p.1 ∙ sym q.1)
