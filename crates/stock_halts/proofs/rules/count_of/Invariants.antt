-- `rules::count_of` meets its contract. The loop's invariant: reading on from here is reading from the start.
use Prim.Native.Nat.{◌+◌, ◌*◌, ◌^◌, ◌≤◌}
use mathlib.Core.Path.{◌≡◌}
use lib.ListN.{drop}
use Rattle.stock_halts.specs.Halts.{ascii_from}
use Rattle.stock_halts.proofs.rules.count_of.Given as goal

abbrev pub invariant-loop-b : goal.invariant-loop-b
invariant-loop-b l = record {
  fits : l.v + 23 ≤ 23 * 10 ^ l.b-index;
  rest : ascii_from l.v (drop l.b-index l.fn.code) ≡ ascii_from 0 l.fn.code;
}
