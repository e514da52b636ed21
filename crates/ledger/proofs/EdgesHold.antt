-- The starred edge holds, and those of giving up, by computation.
use mathlib.Core.Path.{refl}
use Rattle.ledger.specs.Ends.{floor_fits}
use Rattle.ledger.specs.Calls.{valid, arrived_of, gave_up_of}
use Rattle.ledger.specs.Edges.{Edges, GiveUpEdges}

pub edges-hold : Edges
unfolding valid floor_fits arrived_of
edges-hold = record {
  five-is-new = refl;
  two-is-new = refl;
  five-is-repeat = refl;
  heard-two = refl;
  two_runs = refl;
  lowest-run = refl;
  next-run = refl;
  no_third = refl;
  missing-three = refl;
  highest-five = refl;
}

pub give-up-edges-hold : GiveUpEdges
unfolding valid floor_fits arrived_of gave_up_of
give-up-edges-hold = record {
  none-at-first = refl;
  lowest-given-up = refl;
  floor-one = refl;
  one_number = refl;
  still-heard = refl;
  two-missing = refl;
  one-run = refl;
  lowest-now = refl;
  at-the-floor = refl;
  zero-still = refl;
  above-the-floor = refl;
  late = refl;
  next-given-up = refl;
  floor-four = refl;
  three-numbers = refl;
  heard-the-same = refl;
  none-missing = refl;
  highest-the-same = refl;
  recorded-below = refl;
  highest-repeats = refl;
  none_left = refl;
  goes_on = refl;
}
