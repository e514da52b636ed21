-- `run` meets its contract: its ends are in the list.
use Prim.Native.Nat.{◌-◌, ◌*◌, ◌/◌}
use native.Mathlib.Omega.{arith}
use mathlib.Core.Path.{◌≡◌, sym, ◌∙◌}
use lib.ListN.{length}
use Rattle.ledger.specs.Ends.{places}
use Rattle.ledger_figures.proofs.FigureLaws.{run-within, end-small}
use borrow.Author.Rules.{rules}
use Rattle.ledger_figures.proofs.run.Goals as goal

pub bounds-ledger-end : goal.bounds-ledger-end
bounds-ledger-end c =
    let l = c.args.ledger in
    let whole : length l.ends ≡ places = search rules in
    run-within l whole c.in_ok-count.field-0 (sym c.in_ok-count.was ∙ c.in_use.ensures) c.args.place c.if-count-place.false

pub overflow_add-result : goal.overflow_add-result
overflow_add-result c =
    let l = c.args.ledger in
    let whole : length l.ends ≡ places = search rules in
    omega (arith, end-small l whole c.in_ok-count.field-0 (sym c.in_ok-count.was ∙ c.in_use.ensures) (2 * (c.in_ok-count.field-0 / 2 - c.args.place)))

pub bounds-ledger-end-2 : goal.bounds-ledger-end-2
bounds-ledger-end-2 c =
    let l = c.args.ledger in
    let whole : length l.ends ≡ places = search rules in
    omega (arith, run-within l whole c.in_ok-count.field-0 (sym c.in_ok-count.was ∙ c.in_use.ensures) c.args.place c.if-count-place.false)
