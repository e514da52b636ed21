-- The public contracts leave no choice: any two results that they allow are equal.
use mathlib.Core.Path.{◌≡◌, sym, ◌∙◌}
use contract.Lifetimes
use borrow.Fn.World
use borrow.Fn.Kinds as kinds
use denote.Triple.Clauses
use Rattle.ledger_figures.specs.contracts.highest as highest
use Rattle.ledger_figures.proofs.highest.Kinds as highest-kinds
use Rattle.ledger_figures.proofs.highest.Reads as highest-reads
use Rattle.ledger_figures.specs.contracts.heard as heard
use Rattle.ledger_figures.proofs.heard.Kinds as heard-kinds
use Rattle.ledger_figures.proofs.heard.Reads as heard-reads
use Rattle.ledger_figures.specs.contracts.missing as missing
use Rattle.ledger_figures.proofs.missing.Kinds as missing-kinds
use Rattle.ledger_figures.proofs.missing.Reads as missing-reads
use Rattle.ledger_figures.specs.contracts.runs as runs
use Rattle.ledger_figures.proofs.runs.Kinds as runs-kinds
use Rattle.ledger_figures.proofs.runs.Reads as runs-reads
use Rattle.ledger_figures.specs.contracts.floor as floor
use Rattle.ledger_figures.proofs.floor.Kinds as floor-kinds
use Rattle.ledger_figures.proofs.floor.Reads as floor-reads
use Rattle.ledger_figures.specs.contracts.given_up as given-up
use Rattle.ledger_figures.proofs.given_up.Kinds as given-up-kinds
use Rattle.ledger_figures.proofs.given_up.Reads as given-up-reads
use Rattle.ledger_figures.specs.contracts.run as run
use Rattle.ledger_figures.proofs.run.Kinds as run-kinds
use Rattle.ledger_figures.proofs.run.Reads as run-reads

-- what `highest` answers
pub determined-highest : (κs : Lifetimes.Lfts 0) (a : World.ArgsD highest.signature κs) (r₁ r₂ : World.ResD highest.signature κs)
    (s₁ s₂ : Clauses.AtExit (kinds.ended_of 0 highest-kinds.ps highest-kinds.r) κs) → highest-reads.Post κs a r₁ s₁ → highest-reads.Post κs a r₂ s₂
    → r₁ ≡ r₂
determined-highest κs a r₁ r₂ s₁ s₂ p q = p ∙ sym q

-- what `heard` answers
pub determined-heard : (κs : Lifetimes.Lfts 0) (a : World.ArgsD heard.signature κs) (r₁ r₂ : World.ResD heard.signature κs)
    (s₁ s₂ : Clauses.AtExit (kinds.ended_of 0 heard-kinds.ps heard-kinds.r) κs) → heard-reads.Post κs a r₁ s₁ → heard-reads.Post κs a r₂ s₂
    → r₁ ≡ r₂
determined-heard κs a r₁ r₂ s₁ s₂ p q = p ∙ sym q

-- what `missing` answers
pub determined-missing : (κs : Lifetimes.Lfts 0) (a : World.ArgsD missing.signature κs) (r₁ r₂ : World.ResD missing.signature κs)
    (s₁ s₂ : Clauses.AtExit (kinds.ended_of 0 missing-kinds.ps missing-kinds.r) κs) → missing-reads.Post κs a r₁ s₁ → missing-reads.Post κs a r₂ s₂
    → r₁ ≡ r₂
determined-missing κs a r₁ r₂ s₁ s₂ p q = p ∙ sym q

-- what `runs` answers
pub determined-runs : (κs : Lifetimes.Lfts 0) (a : World.ArgsD runs.signature κs) (r₁ r₂ : World.ResD runs.signature κs)
    (s₁ s₂ : Clauses.AtExit (kinds.ended_of 0 runs-kinds.ps runs-kinds.r) κs) → runs-reads.Post κs a r₁ s₁ → runs-reads.Post κs a r₂ s₂
    → r₁ ≡ r₂
determined-runs κs a r₁ r₂ s₁ s₂ p q = p ∙ sym q

-- what `floor` answers
pub determined-floor : (κs : Lifetimes.Lfts 0) (a : World.ArgsD floor.signature κs) (r₁ r₂ : World.ResD floor.signature κs)
    (s₁ s₂ : Clauses.AtExit (kinds.ended_of 0 floor-kinds.ps floor-kinds.r) κs) → floor-reads.Post κs a r₁ s₁ → floor-reads.Post κs a r₂ s₂
    → r₁ ≡ r₂
determined-floor κs a r₁ r₂ s₁ s₂ p q = p ∙ sym q

-- what `given_up` answers
pub determined-given-up : (κs : Lifetimes.Lfts 0) (a : World.ArgsD given-up.signature κs) (r₁ r₂ : World.ResD given-up.signature κs)
    (s₁ s₂ : Clauses.AtExit (kinds.ended_of 0 given-up-kinds.ps given-up-kinds.r) κs) → given-up-reads.Post κs a r₁ s₁ → given-up-reads.Post κs a r₂ s₂
    → r₁ ≡ r₂
determined-given-up κs a r₁ r₂ s₁ s₂ p q = p ∙ sym q

-- what `run` answers
pub determined-run : (κs : Lifetimes.Lfts 0) (a : World.ArgsD run.signature κs) (r₁ r₂ : World.ResD run.signature κs)
    (s₁ s₂ : Clauses.AtExit (kinds.ended_of 0 run-kinds.ps run-kinds.r) κs) → run-reads.Post κs a r₁ s₁ → run-reads.Post κs a r₂ s₂
    → r₁ ≡ r₂
determined-run κs a r₁ r₂ s₁ s₂ p q = p ∙ sym q
