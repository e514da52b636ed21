-- `slots::slot_at` meets its contract.
use Prim.Native.Nat.{◌+◌, ◌*◌, ◌≤◌, ◌<◌}
use mathlib.Core.Path.{◌≡◌, refl, sym, ap, ◌∙◌, subst}
use mathlib.Core.Bool.{true}
use native.Mathlib.Omega.{arith}
use lib.ListN.{length}
use borrow.Author.Tests.{not-true, not-false}
use Rattle.digits.specs.Packed.{good_field}
use Rattle.digits.proofs.Bools.{and_both}
use Rattle.words.specs.declared.blocks.Block.{Block}
use Rattle.codes_times.proofs.RuleLaws.{code_in}
use Rattle.stock_prices.proofs.AndLaws.{none, later}
use Rattle.stock_prices_read.specs.Steps.{figures_good, figures_of}
use Rattle.stock_prices_read.proofs.SlotReads.{part, time-good, time-fits, time-value, slot-good, figures-bad, figures-is, slot_is, timed-is}
use Rattle.stock_prices_read.proofs.slots.slot_at.Goals as goal

pub returns-in_err-figures : goal.returns-in_err-figures
returns-in_err-figures c =
    let a = c.args in
    rw c.from_residual.ensures (slot-good a.body.now a.at ∙ none _ (figures-bad a.body.now a.at (sym c.figures_at.ensures ∙ c.in_err-figures.was)))

pub returns-then-not-h : goal.returns-then-not-h
returns-then-not-h c =
    let told : (figures_good c.args.body.now c.args.at ≡ true) × (figures_of c.args.body.now c.args.at ≡ c.in_ok-figures.figures) = figures-is c.args.body.now c.args.at c.in_ok-figures.figures (sym c.figures_at.ensures ∙ c.in_ok-figures.was) in
    slot-good c.args.body.now c.args.at ∙ later told.0
    (sym (time-good c.args.body.now (c.args.at + 30) (omega (arith, c.requires))) ∙ sym (ap (λ (x : Block). x.good) c.six_at-h.ensures) ∙ not-true _ c.if-not-h.true)

pub returns : goal.returns
returns c =
    let told : (figures_good c.args.body.now c.args.at ≡ true) × (figures_of c.args.body.now c.args.at ≡ c.in_ok-figures.figures) = figures-is c.args.body.now c.args.at c.in_ok-figures.figures (sym c.figures_at.ensures ∙ c.in_ok-figures.was) in
    let room : c.args.at + 30 + 6 ≤ length c.args.body.now = omega (arith, c.requires) in
    let good : c.six_at-h.result.good ≡ true = not-false _ c.if-not-h.false in
    let whole : good_field 12 (part 6 c.args.body.now (c.args.at + 30)) ≡ true = sym (time-good c.args.body.now (c.args.at + 30) room) ∙ sym (ap (λ (x : Block). x.good) c.six_at-h.ensures) ∙ good in
    let eight : c.six_at-h.result.last < 100000000 = let e = c.six_at-h.ensures in subst (λ (x : Block). x.last < 100000000) (sym e) (time-fits c.args.body.now (c.args.at + 30) room (sym (ap (λ (x : Block). x.good) e) ∙ good)) in
    let e = slot_is c.args.body.now c.args.at c.requires c.code_at-code.result c.in_ok-figures.figures (c.six_at-h.result.first * 100000000 + c.six_at-h.result.last)
    (c.code_at-code.ensures ∙ code_in c.args.body.now c.args.at (omega (arith, c.requires))) told.1
    (ap (λ (x : Block). x.first * 100000000 + x.last) c.six_at-h.ensures ∙ time-value c.args.body.now (c.args.at + 30) room) in (
      slot-good c.args.body.now c.args.at ∙ and_both told.0 whole,
      e,
      c.time_right-timed.ensures ∙ timed-is c.args.body.now c.args.at c.requires c.args.counted _ e c.six_at-h.result.first c.six_at-h.result.last eight refl,
    )
