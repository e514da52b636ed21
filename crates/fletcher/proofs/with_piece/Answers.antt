-- `with_piece` meets its contract: at each turn, summing on from here is summing from the start, and the sums stay small enough.
use Prim.Native.Nat.{ℕ, ◌+◌, ◌-◌, ◌*◌, ◌%◌}
use mathlib.Core.Path.{◌≡◌, refl, sym, ap, ap₂, ◌∙◌}
use mathlib.Core.List.{◌∷◌}
use lib.ListN.{length, drop}
use Rattle.list_laws.proofs.Turns.{at_drop}
use Rattle.fletcher.specs.Fletcher.{sums_of, with_bytes}
use Rattle.fletcher.proofs.FletcherLaws.{sum-starts, turn-ahead, sum-turn, sum-ends}
use native.Mathlib.Omega.{arith}
use Rattle.fletcher.proofs.with_piece.Goals as goal

pub loop-i-init : goal.loop-i-init
loop-i-init c =
    let w = c.weighted in
    let none : length c.args.piece.now - 0 ≡ length c.args.piece.now = omega arith in
    rw none (
      omega arith,
      omega arith,
      omega arith,
      sum-starts (length c.args.piece.now) c.from-first.result c.from.result w.result w.ensures.0,
      refl,
    )

pub loop-i-preserved : goal.loop-i-preserved
loop-i-preserved c =
    let l = c.loop-i in
    let bytes = c.args.piece.now in
    let x = c.from-b in
    let w = c.weighted-second in
    let left = length bytes - l.i in
    let k = length bytes - (l.i + 1) in (
      omega arith,
      omega arith,
      omega arith,
      turn-ahead l.first l.second x.result w.result left k (omega arith) l.invariant.3 w.ensures.0,
      sum-turn l.first l.second x.result w.result left k (omega arith) l.invariant.3 w.ensures.0 (drop (l.i + 1) bytes)
          ∙ ap (with_bytes (sums_of (l.first % 255) ((l.second - left * l.first) % 255)))
          (ap (λ (y : ℕ). y ∷ drop (l.i + 1) bytes) x.ensures ∙ sym (at_drop bytes l.i (omega arith)))
          ∙ l.invariant.4,
    )

pub returns : goal.returns
returns c =
    let l = c.loop-i in
    let a = c.args in
    c.reduced.ensures
    ∙ sum-ends a.piece.now l.i l.first l.second c.from-first.result c.from.result c.weighted.result (omega arith) c.weighted.ensures.0 l.invariant.4
    ∙ ap₂ (λ (f s : ℕ). with_bytes (sums_of (f % 255) (s % 255)) a.piece.now) c.from-first.ensures c.from.ensures
