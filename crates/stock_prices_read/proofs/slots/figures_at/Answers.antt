-- `slots::figures_at` meets its contract: field after field, up to the first with a bad digit.
use mathlib.Core.Path.{sym, ◌∙◌}
use Rattle.stock_prices_read.proofs.SlotReads.{figures_are}
use Rattle.stock_prices_read.proofs.slots.figures_at.Goals as goal

pub returns-in_err-from_digits-3 : goal.returns-in_err-from_digits-3
returns-in_err-from_digits-3 c = rw (c.from_residual-in_err-from_digits-3.ensures, figures_are c.args.body.now c.args.at c.requires, sym c.from_digits.ensures ∙ c.in_ok-from_digits.was, sym c.from_digits-2.ensures ∙ c.in_ok-from_digits-2.was, sym c.from_digits-3.ensures ∙ c.in_err-from_digits-3.was)

pub returns-in_err-from_digits-4 : goal.returns-in_err-from_digits-4
returns-in_err-from_digits-4 c = rw (c.from_residual-in_err-from_digits-4.ensures, figures_are c.args.body.now c.args.at c.requires, sym c.from_digits.ensures ∙ c.in_ok-from_digits.was, sym c.from_digits-2.ensures ∙ c.in_ok-from_digits-2.was, sym c.from_digits-3.ensures ∙ c.in_ok-from_digits-3.was, sym c.from_digits-4.ensures ∙ c.in_err-from_digits-4.was)

pub returns : goal.returns
returns c = rw (figures_are c.args.body.now c.args.at c.requires, sym c.from_digits.ensures ∙ c.in_ok-from_digits.was, sym c.from_digits-2.ensures ∙ c.in_ok-from_digits-2.was, sym c.from_digits-3.ensures ∙ c.in_ok-from_digits-3.was, sym c.from_digits-4.ensures ∙ c.in_ok-from_digits-4.was)
