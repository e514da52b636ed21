-- `with_piece` meets its contract: at each turn, summing on from here is summing from the start, and the sums stay small enough.
use Prim.Native.Nat.{◌+◌, ◌-◌, ◌*◌, ◌%◌, ◌≤◌}
use mathlib.Core.Path.{◌≡◌}
use lib.ListN.{length, drop}
use Rattle.fletcher.specs.Fletcher.{sums_of, with_bytes}
use Rattle.fletcher.proofs.with_piece.Given as goal

abbrev pub invariant-loop-i : goal.invariant-loop-i
invariant-loop-i l =
    let n = length l.piece in
    (l.i ≤ n) × (l.first ≤ 255 + 255 * l.i) × (l.second ≤ 260355 + 260100 * l.i) × ((n - l.i) * l.first ≤ l.second)
    × (with_bytes (sums_of (l.first % 255) ((l.second - (n - l.i) * l.first) % 255)) (drop l.i l.piece)
    ≡ with_bytes (sums_of (l.initial.first % 255) ((l.initial.second - n * l.initial.first) % 255)) l.piece)
