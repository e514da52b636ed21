-- `judging::slot_fits` meets its contract.
use Rattle.std.proofs.Common.{ℕ, ◌≡◌, ◌∙◌, true, ◌&&◌, sym, arith, leb, ltb}
use borrow.Author.Tests.{lt-ltb, le-ltb}
use Rattle.stock_prices.proofs.Shapes.{code-long}
use Rattle.stock_prices.proofs.AndLaws.{none, later, holds}
use Rattle.stock_prices_write.proofs.WriteLaws.{slot_fits_is}
use Rattle.stock_prices_write.proofs.judging.slot_fits.Goals.{then-s-gt-MOST-3-via-then-s-gt-MOST-3, then-s-gt-MOST-3-via-else-s-gt-MOST-3+then-s-gt-MOST-4}
use Rattle.stock_prices_write.proofs.judging.slot_fits.Goals as goal

twelve-digits : (t : ℕ) → (ltb t 1000000000000 && true) ≡ leb t 999999999999
twelve-digits t = grind arith

pub returns-then-s-gt-MOST-3 : goal.returns-then-s-gt-MOST-3
returns-then-s-gt-MOST-3 c =
    let s = c.args.s in
    let e : ltb s.opening.0 1000000000 ≡ true = lt-ltb s.opening.0 1000000000 (omega (arith, c.if-s-gt-MOST.false)) in
    let f : ltb s.highest.0 1000000000 ≡ true = lt-ltb s.highest.0 1000000000 (omega (arith, c.if-s-gt-MOST-2.false)) in
    sym (slot_fits_is s (code-long s _ c.well_formed.0) ∙ later e (later f
    (elim c.then-s-gt-MOST-3.branch [
      | then-s-gt-MOST-3-via-then-s-gt-MOST-3 w ↦ none _ (le-ltb s.lowest.0 1000000000 (omega (arith, w.if-s-gt-MOST-3.true)))
      | then-s-gt-MOST-3-via-else-s-gt-MOST-3+then-s-gt-MOST-4 w ↦ later (lt-ltb s.lowest.0 1000000000 (omega (arith, w.if-s-gt-MOST-3.false))) (none _ (le-ltb s.last.0 1000000000 (omega (arith, w.if-s-gt-MOST-4.true))))
    ])))

pub returns : goal.returns
returns c =
    let s = c.args.s in
    sym (slot_fits_is s (code-long s _ c.well_formed.0)
    ∙ holds _ (lt-ltb s.opening.0 1000000000 (omega (arith, c.if-s-gt-MOST.false)))
    ∙ holds _ (lt-ltb s.highest.0 1000000000 (omega (arith, c.if-s-gt-MOST-2.false)))
    ∙ holds _ (lt-ltb s.lowest.0 1000000000 (omega (arith, c.if-s-gt-MOST-3.false)))
    ∙ holds _ (lt-ltb s.last.0 1000000000 (omega (arith, c.if-s-gt-MOST-4.false)))
    ∙ holds _ (lt-ltb s.total.0 100000000 (omega (arith, c.if-s-gt-MOST-5.false)))
    ∙ twelve-digits s.time)
