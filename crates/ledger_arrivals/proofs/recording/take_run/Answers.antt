-- `recording::take_run` meets its contract: the run ends a missing stretch, or begins one, or neither.
use Prim.Native.Nat.{ℕ, ◌-◌, ◌<◌}
use native.Mathlib.Omega.{arith}
use mathlib.Core.Path.{◌≡◌, ap, ◌∙◌}
use Rattle.ledger.specs.Ends.{with_run}
use Rattle.ledger_arrivals.specs.Steps.{taken_answer}
use lib.ListN.{get_or}
use Rattle.ledger_arrivals.proofs.TakeLaws.{at-its-end, taken-shortens, taken-raises}
use Rattle.ledger_arrivals.proofs.recording.take_run.Goals as goal
use Rattle.ledger_arrivals.proofs.recording.take_run.Goals.{else-at-gt0-via-then-at-gt0+else-ends-at, else-at-gt0-via-else-at-gt0}

pub returns-then-ends-at-clause-value : goal.returns-then-ends-at-clause-value
returns-then-ends-at-clause-value c =
    let a = c.args in
    taken-shortens (a.at - 1) a.before a.ends.now (at-its-end a.at a.before a.last a.ends.now c.requires c.if-at-gt0.true c.if-ends-at.true)
    ∙ ap (λ (x : ℕ). taken_answer (with_run a.before x a.ends.now)) c.if-ends-at.true

pub returns-then-ends-at-2 : goal.returns-then-ends-at-2
returns-then-ends-at-2 c =
    let apart : 0 < c.args.at → get_or c.args.ends.now (c.args.at - 1) 0 ≡ c.args.last → ⊥ =
    elim c.else-at-gt0.branch [ else-at-gt0-via-then-at-gt0+else-ends-at w ↦ λ pos q. w.if-ends-at.false q | else-at-gt0-via-else-at-gt0 w ↦ λ pos q. omega arith ] in
    let both = taken-raises c.args.at c.args.before c.args.last c.args.ends.now c.requires apart c.if-ends-at-2.true in record { value = both.0; ends_after = both.1 }
