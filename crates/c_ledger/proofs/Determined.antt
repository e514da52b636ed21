-- The public contracts leave no choice: any two results that they allow are equal, and so is any lent memory afterwards.
use mathlib.Core.Path.{◌≡◌, sym, ap, ◌∙◌}
use contract.Lifetimes
use borrow.Fn.World
use borrow.Fn.Kinds as kinds
use denote.Triple.Clauses
use Rattle.ledger.specs.declared.Ledger.{Ledger}
use Rattle.c_ledger.specs.contracts.trivsome_clear as clear
use Rattle.c_ledger.proofs.trivsome_clear.Kinds as clear-kinds
use Rattle.c_ledger.proofs.trivsome_clear.Reads as clear_reads
use Rattle.c_ledger.specs.contracts.trivsome_arrive as arrive
use Rattle.c_ledger.proofs.trivsome_arrive.Kinds as arrive-kinds
use Rattle.c_ledger.proofs.trivsome_arrive.Reads as arrive-reads
use Rattle.c_ledger.specs.contracts.trivsome_give_up as give-up
use Rattle.c_ledger.proofs.trivsome_give_up.Kinds as give-up-kinds
use Rattle.c_ledger.proofs.trivsome_give_up.Reads as give-up-reads
use Rattle.c_ledger.specs.contracts.trivsome_highest as highest
use Rattle.c_ledger.proofs.trivsome_highest.Kinds as highest-kinds
use Rattle.c_ledger.proofs.trivsome_highest.Reads as highest-reads
use Rattle.c_ledger.specs.contracts.trivsome_heard as heard
use Rattle.c_ledger.proofs.trivsome_heard.Kinds as heard-kinds
use Rattle.c_ledger.proofs.trivsome_heard.Reads as heard-reads
use Rattle.c_ledger.specs.contracts.trivsome_missing as missing
use Rattle.c_ledger.proofs.trivsome_missing.Kinds as missing-kinds
use Rattle.c_ledger.proofs.trivsome_missing.Reads as missing-reads
use Rattle.c_ledger.specs.contracts.trivsome_runs as runs
use Rattle.c_ledger.proofs.trivsome_runs.Kinds as runs-kinds
use Rattle.c_ledger.proofs.trivsome_runs.Reads as runs-reads
use Rattle.c_ledger.specs.contracts.trivsome_floor as floor
use Rattle.c_ledger.proofs.trivsome_floor.Kinds as floor-kinds
use Rattle.c_ledger.proofs.trivsome_floor.Reads as floor-reads
use Rattle.c_ledger.specs.contracts.trivsome_given_up as given-up
use Rattle.c_ledger.proofs.trivsome_given_up.Kinds as given-up-kinds
use Rattle.c_ledger.proofs.trivsome_given_up.Reads as given-up-reads
use Rattle.c_ledger.specs.contracts.trivsome_run as run
use Rattle.c_ledger.proofs.trivsome_run.Kinds as run-kinds
use Rattle.c_ledger.proofs.trivsome_run.Reads as run-reads

-- what `trivsome_clear` leaves
pub determined-trivsome-clear : (κs : Lifetimes.Lfts 3) (a : World.ArgsD clear.signature κs) (r₁ r₂ : World.ResD clear.signature κs)
    (s₁ s₂ : Clauses.AtExit (kinds.ended_of 3 clear-kinds.ps clear-kinds.r) κs) → clear_reads.Post κs a r₁ s₁ → clear_reads.Post κs a r₂ s₂
    → (s₁.0.now ≡ s₂.0.now) × (s₁.1.0.now ≡ s₂.1.0.now) × (s₁.1.1.0.now ≡ s₂.1.1.0.now)
determined-trivsome-clear κs a r₁ r₂ s₁ s₂ p q =
    let same = p ∙ sym q in
    (ap (λ (l : Ledger). l.ends) same, ap (λ (l : Ledger). l.floor) same, ap (λ (l : Ledger). l.given) same)

-- what `trivsome_arrive` answers, and the lent memory afterwards
pub determined-trivsome-arrive : (κs : Lifetimes.Lfts 1) (a : World.ArgsD arrive.signature κs) (r₁ r₂ : World.ResD arrive.signature κs)
    (s₁ s₂ : Clauses.AtExit (kinds.ended_of 1 arrive-kinds.ps arrive-kinds.r) κs) → arrive-reads.Post κs a r₁ s₁ → arrive-reads.Post κs a r₂ s₂
    → (r₁ ≡ r₂) × (s₁.0.now ≡ s₂.0.now)
determined-trivsome-arrive κs a r₁ r₂ s₁ s₂ p q = (p.0 ∙ sym q.0, p.1 ∙ sym q.1)

-- what `trivsome_give_up` answers, and the lent memory afterwards
pub determined-trivsome-give-up : (κs : Lifetimes.Lfts 3) (a : World.ArgsD give-up.signature κs) (r₁ r₂ : World.ResD give-up.signature κs)
    (s₁ s₂ : Clauses.AtExit (kinds.ended_of 3 give-up-kinds.ps give-up-kinds.r) κs) → give-up-reads.Post κs a r₁ s₁ → give-up-reads.Post κs a r₂ s₂
    → (r₁ ≡ r₂) × (s₁.0.now ≡ s₂.0.now) × (s₁.1.0.now ≡ s₂.1.0.now) × (s₁.1.1.0.now ≡ s₂.1.1.0.now)
determined-trivsome-give-up κs a r₁ r₂ s₁ s₂ p q =
    let same = p.1 ∙ sym q.1 in
    (p.0 ∙ sym q.0, ap (λ (l : Ledger). l.ends) same, ap (λ (l : Ledger). l.floor) same, ap (λ (l : Ledger). l.given) same)

-- what `trivsome_highest` answers
pub determined-trivsome-highest : (κs : Lifetimes.Lfts 1) (a : World.ArgsD highest.signature κs) (r₁ r₂ : World.ResD highest.signature κs)
    (s₁ s₂ : Clauses.AtExit (kinds.ended_of 1 highest-kinds.ps highest-kinds.r) κs) → highest-reads.Post κs a r₁ s₁ → highest-reads.Post κs a r₂ s₂
    → r₁ ≡ r₂
determined-trivsome-highest κs a r₁ r₂ s₁ s₂ p q = p ∙ sym q

-- what `trivsome_heard` answers
pub determined-trivsome-heard : (κs : Lifetimes.Lfts 1) (a : World.ArgsD heard.signature κs) (r₁ r₂ : World.ResD heard.signature κs)
    (s₁ s₂ : Clauses.AtExit (kinds.ended_of 1 heard-kinds.ps heard-kinds.r) κs) → heard-reads.Post κs a r₁ s₁ → heard-reads.Post κs a r₂ s₂
    → r₁ ≡ r₂
determined-trivsome-heard κs a r₁ r₂ s₁ s₂ p q = p ∙ sym q

-- what `trivsome_missing` answers
pub determined-trivsome-missing : (κs : Lifetimes.Lfts 1) (a : World.ArgsD missing.signature κs) (r₁ r₂ : World.ResD missing.signature κs)
    (s₁ s₂ : Clauses.AtExit (kinds.ended_of 1 missing-kinds.ps missing-kinds.r) κs) → missing-reads.Post κs a r₁ s₁ → missing-reads.Post κs a r₂ s₂
    → r₁ ≡ r₂
determined-trivsome-missing κs a r₁ r₂ s₁ s₂ p q = p ∙ sym q

-- what `trivsome_runs` answers
pub determined-trivsome-runs : (κs : Lifetimes.Lfts 1) (a : World.ArgsD runs.signature κs) (r₁ r₂ : World.ResD runs.signature κs)
    (s₁ s₂ : Clauses.AtExit (kinds.ended_of 1 runs-kinds.ps runs-kinds.r) κs) → runs-reads.Post κs a r₁ s₁ → runs-reads.Post κs a r₂ s₂
    → r₁ ≡ r₂
determined-trivsome-runs κs a r₁ r₂ s₁ s₂ p q = p ∙ sym q

-- what `trivsome_floor` answers
pub determined-trivsome-floor : (κs : Lifetimes.Lfts 1) (a : World.ArgsD floor.signature κs) (r₁ r₂ : World.ResD floor.signature κs)
    (s₁ s₂ : Clauses.AtExit (kinds.ended_of 1 floor-kinds.ps floor-kinds.r) κs) → floor-reads.Post κs a r₁ s₁ → floor-reads.Post κs a r₂ s₂
    → r₁ ≡ r₂
determined-trivsome-floor κs a r₁ r₂ s₁ s₂ p q = p ∙ sym q

-- what `trivsome_given_up` answers
pub determined-trivsome-given-up : (κs : Lifetimes.Lfts 1) (a : World.ArgsD given-up.signature κs) (r₁ r₂ : World.ResD given-up.signature κs)
    (s₁ s₂ : Clauses.AtExit (kinds.ended_of 1 given-up-kinds.ps given-up-kinds.r) κs) → given-up-reads.Post κs a r₁ s₁ → given-up-reads.Post κs a r₂ s₂
    → r₁ ≡ r₂
determined-trivsome-given-up κs a r₁ r₂ s₁ s₂ p q = p ∙ sym q

-- what `trivsome_run` answers
pub determined-trivsome-run : (κs : Lifetimes.Lfts 1) (a : World.ArgsD run.signature κs) (r₁ r₂ : World.ResD run.signature κs)
    (s₁ s₂ : Clauses.AtExit (kinds.ended_of 1 run-kinds.ps run-kinds.r) κs) → run-reads.Post κs a r₁ s₁ → run-reads.Post κs a r₂ s₂
    → r₁ ≡ r₂
determined-trivsome-run κs a r₁ r₂ s₁ s₂ p q = p ∙ sym q
