-- `check_sums` meets its contract: after each piece, summing on from here is summing from the start.
use mathlib.Core.Path.{◌≡◌}
use Rattle.fletcher.specs.Fletcher.{sums_of, with_bytes, between}
use Rattle.fletcher.proofs.FletcherLaws.{Small}
use Rattle.fletcher.proofs.check_sums.Given as goal

abbrev pub invariant-loop-piece : goal.invariant-loop-piece
invariant-loop-piece l =
    let it = l.piece-iterator in
    (it.size ≡ 1020) × Small l.s × (with_bytes l.s it.rest.now ≡ with_bytes (sums_of 0 0) (between l.from l.end l.bytes))
