-- `in_use` meets its contract.
use mathlib.Core.Path.{◌≡◌, sym, ◌∙◌}
use lib.ListN.{length}
use Rattle.std.specs.Prelude.{Err}
use Rattle.ledger.specs.Ends.{places}
use Rattle.ledger.specs.declared.LedgerError.{LedgerError}
use Rattle.ledger_figures.proofs.FigureLaws.{seen-figure, seen-damaged}
use borrow.Author.Rules.{rules}
use Rattle.ledger_figures.proofs.in_use.Goals as goal

pub returns-in_err-count : goal.returns-in_err-count
returns-in_err-count c =
    let l = c.args.ledger.now in
    let whole : length l.ends ≡ places = search rules in
    let same : c.from_residual.result ≡ Err LedgerError.Damaged = search rules in
    same ∙ seen-damaged l whole c.in_err-count.field-0.0 (sym c.in_err-count.was ∙ c.look.ensures)

pub returns : goal.returns
returns c =
    let l = c.args.ledger.now in
    let whole : length l.ends ≡ places = search rules in
    seen-figure l whole c.in_ok-count.count (sym c.in_ok-count.was ∙ c.look.ensures)
