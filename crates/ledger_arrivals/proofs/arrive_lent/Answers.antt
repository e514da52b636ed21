-- `arrive_lent` meets its contract, a law for each answer.
use native.Mathlib.Omega.{arith}
use mathlib.Core.Path.{◌≡◌, refl, sym, ◌∙◌}
use borrow.Author.Tests.{eq-eqb, ne_eqb, lt-ltb}
use borrow.Author.Rules.{rules}
use Rattle.std.specs.Prelude.{Err}
use Rattle.ledger.specs.Calls.{most_number, ledger_of}
use Rattle.ledger.specs.declared.LedgerError.{LedgerError}
use Rattle.ledger_ends.proofs.SeenLaws.{seen-found, seen-refused}
use Rattle.ledger_arrivals.proofs.LentLaws.{lent-damaged, lent-outside, lent-under, lent-repeat, lent-missing, lent-taken}
use Rattle.ledger_arrivals.proofs.arrive_lent.Goals as goal
use Rattle.ledger_arrivals.proofs.arrive_lent.Goals.{then-n-eq0-via-then-n-eq0, then-n-eq0-via-else-n-eq0+then-n-gt-MOST}

pub returns-in_err-from : goal.returns-in_err-from
returns-in_err-from c =
    let a = c.args in
    let l = ledger_of a.ends.now a.floor a.given in
    let d = c.in_err-from.field-0.0 in
    let e = LedgerError.Damaged in
    let same : c.from_residual.result ≡ Err e = search rules in
    rw same (lent-damaged l a.n e (seen-refused a.n l d (sym c.in_err-from.was ∙ c.look.ensures) e refl))

pub returns-then-n-eq0 : goal.returns-then-n-eq0
returns-then-n-eq0 c =
    let a = c.args in
    let l = ledger_of a.ends.now a.floor a.given in
    let found = seen-found a.n l c.in_ok-from.from (sym c.in_ok-from.was ∙ c.look.ensures) in
    lent-outside a.n l c.in_ok-from.from found
    (elim c.then-n-eq0.branch [
      | then-n-eq0-via-then-n-eq0 w ↦ rw (eq-eqb a.n 0 w.if-n-eq0.true) refl
      | then-n-eq0-via-else-n-eq0+then-n-gt-MOST w ↦ rw (ne_eqb a.n 0 w.if-n-eq0.false, lt-ltb most_number a.n w.if-n-gt-MOST.true) refl
    ])

pub returns-then-n-floor : goal.returns-then-n-floor
returns-then-n-floor c =
    let a = c.args in
    let l = ledger_of a.ends.now a.floor a.given in
    let found = seen-found a.n l c.in_ok-from.from (sym c.in_ok-from.was ∙ c.look.ensures) in
    lent-under a.n l c.in_ok-from.from found (omega (arith, c.if-n-eq0.false)) c.if-n-gt-MOST.false c.if-n-floor.true

pub returns-then-from-eq1 : goal.returns-then-from-eq1
returns-then-from-eq1 c =
    let a = c.args in
    let l = ledger_of a.ends.now a.floor a.given in
    let found = seen-found a.n l c.in_ok-from.from (sym c.in_ok-from.was ∙ c.look.ensures) in
    lent-repeat a.n l c.in_ok-from.from found (omega (arith, c.if-n-eq0.false)) c.if-n-gt-MOST.false c.if-n-floor.false c.if-from-eq1.true

pub take_run-requires : goal.take_run-requires
take_run-requires c =
    let a = c.args in
    let l = ledger_of a.ends.now a.floor a.given in
    let found = seen-found a.n l c.in_ok-from.from (sym c.in_ok-from.was ∙ c.look.ensures) in
    lent-missing a.n l c.in_ok-from.from found (omega (arith, c.if-n-eq0.false)) c.if-n-gt-MOST.false (omega (arith, c.if-from-eq1.false))

pub returns : goal.returns
returns c =
    let a = c.args in
    let l = ledger_of a.ends.now a.floor a.given in
    let found = seen-found a.n l c.in_ok-from.from (sym c.in_ok-from.was ∙ c.look.ensures) in
    lent-taken a.n l c.in_ok-from.from found (omega (arith, c.if-n-eq0.false)) c.if-n-gt-MOST.false c.if-n-floor.false (omega (arith, c.if-from-eq1.false))
    c.take_run.new.ends c.take_run.result c.take_run.ensures.value c.take_run.ensures.ends_after
