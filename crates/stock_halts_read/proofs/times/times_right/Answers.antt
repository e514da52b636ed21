-- `times::times_right` meets its contract.
use mathlib.Core.Path.{◌≡◌, sym, ap, ◌∙◌}
use native.Mathlib.Omega.{arith}
use borrow.Author.Tests.{eq-eqb}
use Rattle.codes_times.specs.Times.{time_of_day}
use Rattle.stock_halts.proofs.RuleLaws.{times-no-day, times-open, times-both}
use Rattle.stock_halts_read.proofs.times.times_right.Goals as goal

pub day_at-requires : goal.day_at-requires
day_at-requires c = (omega (arith, c.requires.0), c.requires.1)

pub returns-then-r-eq-NINES : goal.returns-then-r-eq-NINES
returns-then-r-eq-NINES c =
    let halt-day : c.day_at.result ≡ time_of_day 0 c.args.h = c.day_at.ensures ∙ ap (time_of_day 0) c.requires.2 in
    eq-eqb c.args.r 999999 c.if-r-eq-NINES.true ∙ sym (times-open c.args.h c.args.r (sym halt-day ∙ c.if-day_at.true) c.if-r-eq-NINES.true)

pub returns-else-r-eq-NINES : goal.returns-else-r-eq-NINES
returns-else-r-eq-NINES c =
    let halt-day : c.day_at.result ≡ time_of_day 0 c.args.h = c.day_at.ensures ∙ ap (time_of_day 0) c.requires.2 in
    c.day_at-else-r-eq-NINES.ensures ∙ ap (time_of_day 0) c.requires.4
    ∙ sym (times-both c.args.h c.args.r (sym halt-day ∙ c.if-day_at.true) c.if-r-eq-NINES.false)

pub returns-else-day_at : goal.returns-else-day_at
returns-else-day_at c =
    let halt-day : c.day_at.result ≡ time_of_day 0 c.args.h = c.day_at.ensures ∙ ap (time_of_day 0) c.requires.2 in
    c.if-day_at.false ∙ sym (times-no-day c.args.h c.args.r c.if-h-eq-NINES.false (sym halt-day ∙ c.if-day_at.false))
