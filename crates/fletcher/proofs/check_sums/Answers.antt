-- `check_sums` meets its contract: after each piece, summing on from here is summing from the start.
use mathlib.Core.Path.{sym, ap, ◌∙◌}
use Rattle.fletcher.specs.Fletcher.{with_bytes}
use Rattle.fletcher.proofs.FletcherLaws.{piece-small, piece-turn, sums_none, sums-all}
use native.Mathlib.Omega.{arith}
use Rattle.fletcher.proofs.check_sums.Goals as goal

pub loop-piece-preserved : goal.loop-piece-preserved
loop-piece-preserved c =
    let l = c.loop-piece in
    let r = c.with_piece-s in
    let steps = c.in-Some.ensures.steps in (
      steps.0 ∙ l.invariant.0,
      piece-small l.s l.invariant.1 c.in-Some.piece.now r.result r.ensures,
      piece-turn l.s l.invariant.1 c.in-Some.piece.now r.result r.ensures c.next.new.self.rest.now
          ∙ ap (with_bytes l.s) (sym steps.1.0) ∙ l.invariant.2,
    )

pub returns-in-None : goal.returns-in-None
returns-in-None c =
    let a = c.args in
    let l = c.loop-piece in
    sums-all a.bytes.now a.from a.to c.min-end.result l.s l.piece-iterator.rest.now c.min-end.ensures l.invariant.2 (omega (arith, c.in-None.ensures.steps.1.0))

pub returns-else-from-end : goal.returns-else-from-end
returns-else-from-end c = let a = c.args in sums_none a.bytes.now a.from a.to c.min-end.result c.min-end.ensures (omega arith)
