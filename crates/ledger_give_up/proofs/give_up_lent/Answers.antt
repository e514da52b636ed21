-- `give_up_lent` meets its contract, a law for each answer.
use native.Mathlib.Omega.{arith}
use Prim.Native.Nat.{◌-◌, ◌*◌, ◌/◌}
use mathlib.Core.Path.{◌≡◌, refl, sym, ◌∙◌}
use lib.ListN.{length-set}
use borrow.Author.Rules.{rules}
use Rattle.std.specs.Prelude.{Err}
use Rattle.ledger.specs.Calls.{ledger_of}
use Rattle.ledger.specs.declared.LedgerError.{LedgerError}
use Rattle.ledger_ends.proofs.SeenLaws.{seen-found, seen-refused}
use Rattle.ledger_give_up.proofs.LessLaws.{gave-damaged, gave-none, gave_some, end-small, given-small, before_last, lent-ends}
use Rattle.ledger_give_up.proofs.give_up_lent.Goals as goal

pub returns-in_err-count : goal.returns-in_err-count
returns-in_err-count c =
    let a = c.args in
    let l = ledger_of a.ends.now a.floor.now a.given.now in
    let d = c.in_err-count.field-0.0 in
    let e = LedgerError.Damaged in
    let same : c.from_residual.result ≡ Err e = search rules in
    rw same (gave-damaged l e (seen-refused 1 l d (sym c.in_err-count.was ∙ c.look.ensures) e refl))

pub returns-then-count-eq0 : goal.returns-then-count-eq0
returns-then-count-eq0 c =
    let a = c.args in
    let l = ledger_of a.ends.now a.floor.now a.given.now in
    let from = c.in_ok-count.field-0 in
    let found = seen-found 1 l from (sym c.in_ok-count.was ∙ c.look.ensures) in
    gave-none l from found c.if-count-eq0.true

pub bounds-ends-end : goal.bounds-ends-end
bounds-ends-end c =
    let a = c.args in
    let l = ledger_of a.ends.now a.floor.now a.given.now in
    let from = c.in_ok-count.field-0 in
    let found = seen-found 1 l from (sym c.in_ok-count.was ∙ c.look.ensures) in
    lent-ends l from found

pub bounds-ends-end-2 : goal.bounds-ends-end-2
bounds-ends-end-2 c =
    let a = c.args in
    let l = ledger_of a.ends.now a.floor.now a.given.now in
    let from = c.in_ok-count.field-0 in
    let found = seen-found 1 l from (sym c.in_ok-count.was ∙ c.look.ensures) in
    omega (arith, lent-ends l from found)

pub bounds-ends-end-3 : goal.bounds-ends-end-3
bounds-ends-end-3 c =
    let a = c.args in
    let l = ledger_of a.ends.now a.floor.now a.given.now in
    let from = c.in_ok-count.field-0 in
    let found = seen-found 1 l from (sym c.in_ok-count.was ∙ c.look.ensures) in
    lent-ends l from found

pub bounds-ends-end-4 : goal.bounds-ends-end-4
bounds-ends-end-4 c =
    let a = c.args in
    let l = ledger_of a.ends.now a.floor.now a.given.now in
    let from = c.in_ok-count.field-0 in
    omega (arith, length-set a.ends.now (2 * (from / 2)) 0, lent-ends l from (seen-found 1 l from (sym c.in_ok-count.was ∙ c.look.ensures)))

pub overflow_sub-given : goal.overflow_sub-given
overflow_sub-given c =
    let a = c.args in
    let l = ledger_of a.ends.now a.floor.now a.given.now in
    let from = c.in_ok-count.field-0 in
    let found = seen-found 1 l from (sym c.in_ok-count.was ∙ c.look.ensures) in
    before_last l from found (omega (arith, c.if-count-eq0.false))

pub overflow_add-given : goal.overflow_add-given
overflow_add-given c =
    let a = c.args in
    let l = ledger_of a.ends.now a.floor.now a.given.now in
    let from = c.in_ok-count.field-0 in
    let found = seen-found 1 l from (sym c.in_ok-count.was ∙ c.look.ensures) in
    omega (arith, given-small l from found, end-small l from found (2 * (from / 2) - 1))

pub overflow_add-result : goal.overflow_add-result
overflow_add-result c =
    let a = c.args in
    let l = ledger_of a.ends.now a.floor.now a.given.now in
    let from = c.in_ok-count.field-0 in
    let found = seen-found 1 l from (sym c.in_ok-count.was ∙ c.look.ensures) in
    omega (arith, end-small l from found (2 * (from / 2)))

pub returns : goal.returns
returns c =
    let a = c.args in
    let l = ledger_of a.ends.now a.floor.now a.given.now in
    let from = c.in_ok-count.field-0 in
    let found = seen-found 1 l from (sym c.in_ok-count.was ∙ c.look.ensures) in
    gave_some l from found (omega (arith, c.if-count-eq0.false))
