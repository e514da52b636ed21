-- The edges hold, by computation.
use mathlib.Core.Path.{refl}
use Rattle.derivatives_reading.specs.Reading.{answer_of, index_in}
use Rattle.derivatives_reading.specs.Edges.{Edges}

pub edges-hold : Edges
unfolding answer_of index_in
edges-hold = record {
  short-accepted = refl;
  short-means = refl;
  long-accepted = refl;
  long-means = refl;
  no_bytes = refl;
  not-27 = refl;
  thirteen = refl;
  one_less = refl;
  length-digit = refl;
  longest = refl;
  too_long = refl;
  no_body = refl;
  head-digit = refl;
  other-kind = refl;
  other-version = refl;
  body-digit = refl;
  sent-late = refl;
  nines = refl;
  bit-one = refl;
  bit-two = refl;
  bit-three = refl;
}
