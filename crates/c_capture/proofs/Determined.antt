-- The public contracts leave no choice: any two results that they allow are equal, and so are the capture's bytes afterwards.
use mathlib.Core.Path.{◌≡◌, sym, ◌∙◌}
use contract.Lifetimes
use borrow.Fn.World
use borrow.Fn.Kinds as kinds
use denote.Triple.Clauses
use Rattle.c_capture.specs.contracts.trivsome_capture_clear as clear
use Rattle.c_capture.proofs.trivsome_capture_clear.Kinds as clear-kinds
use Rattle.c_capture.proofs.trivsome_capture_clear.Reads as clear_reads
use Rattle.c_capture.specs.contracts.trivsome_capture_append as append
use Rattle.c_capture.proofs.trivsome_capture_append.Kinds as append-kinds
use Rattle.c_capture.proofs.trivsome_capture_append.Reads as append-reads
use Rattle.c_capture.specs.contracts.trivsome_capture_append_cut as append-cut
use Rattle.c_capture.proofs.trivsome_capture_append_cut.Kinds as append-cut-kinds
use Rattle.c_capture.proofs.trivsome_capture_append_cut.Reads as append-cut-reads
use Rattle.c_capture.specs.contracts.trivsome_capture_finished as finished
use Rattle.c_capture.proofs.trivsome_capture_finished.Kinds as finished-kinds
use Rattle.c_capture.proofs.trivsome_capture_finished.Reads as finished-reads
use Rattle.c_capture.specs.contracts.trivsome_capture_payload as payload
use Rattle.c_capture.proofs.trivsome_capture_payload.Kinds as payload-kinds
use Rattle.c_capture.proofs.trivsome_capture_payload.Reads as payload-reads

-- what `trivsome_capture_clear` answers, and the capture afterwards
pub determined-trivsome-capture-clear : (κs : Lifetimes.Lfts 1) (a : World.ArgsD clear.signature κs) (r₁ r₂ : World.ResD clear.signature κs)
    (s₁ s₂ : Clauses.AtExit (kinds.ended_of 1 clear-kinds.ps clear-kinds.r) κs) → clear_reads.Post κs a r₁ s₁ → clear_reads.Post κs a r₂ s₂
    → (r₁ ≡ r₂) × (s₁.0.now ≡ s₂.0.now)
determined-trivsome-capture-clear κs a r₁ r₂ s₁ s₂ p q = (p.0 ∙ sym q.0, p.1 ∙ sym q.1)

-- what `trivsome_capture_append` answers, and the capture afterwards
pub determined-trivsome-capture-append : (κs : Lifetimes.Lfts 2) (a : World.ArgsD append.signature κs) (r₁ r₂ : World.ResD append.signature κs)
    (s₁ s₂ : Clauses.AtExit (kinds.ended_of 2 append-kinds.ps append-kinds.r) κs) → append-reads.Post κs a r₁ s₁ → append-reads.Post κs a r₂ s₂
    → (r₁ ≡ r₂) × (s₁.0.now ≡ s₂.0.now)
determined-trivsome-capture-append κs a r₁ r₂ s₁ s₂ p q = (p.0 ∙ sym q.0, p.1 ∙ sym q.1)

-- what `trivsome_capture_append_cut` answers, and the capture afterwards
pub determined-trivsome-capture-append-cut : (κs : Lifetimes.Lfts 2) (a : World.ArgsD append-cut.signature κs) (r₁ r₂ : World.ResD append-cut.signature κs)
    (s₁ s₂ : Clauses.AtExit (kinds.ended_of 2 append-cut-kinds.ps append-cut-kinds.r) κs) → append-cut-reads.Post κs a r₁ s₁ → append-cut-reads.Post κs a r₂ s₂
    → (r₁ ≡ r₂) × (s₁.0.now ≡ s₂.0.now)
determined-trivsome-capture-append-cut κs a r₁ r₂ s₁ s₂ p q = (p.0 ∙ sym q.0, p.1 ∙ sym q.1)

-- what `trivsome_capture_finished` answers
pub determined-trivsome-capture-finished : (κs : Lifetimes.Lfts 1) (a : World.ArgsD finished.signature κs) (r₁ r₂ : World.ResD finished.signature κs)
    (s₁ s₂ : Clauses.AtExit (kinds.ended_of 1 finished-kinds.ps finished-kinds.r) κs) → finished-reads.Post κs a r₁ s₁ → finished-reads.Post κs a r₂ s₂
    → r₁ ≡ r₂
determined-trivsome-capture-finished κs a r₁ r₂ s₁ s₂ p q = p ∙ sym q

-- what `trivsome_capture_payload` answers
pub determined-trivsome-capture-payload : (κs : Lifetimes.Lfts 1) (a : World.ArgsD payload.signature κs) (r₁ r₂ : World.ResD payload.signature κs)
    (s₁ s₂ : Clauses.AtExit (kinds.ended_of 1 payload-kinds.ps payload-kinds.r) κs) → payload-reads.Post κs a r₁ s₁ → payload-reads.Post κs a r₂ s₂
    → r₁ ≡ r₂
determined-trivsome-capture-payload κs a r₁ r₂ s₁ s₂ p q = p ∙ sym q
