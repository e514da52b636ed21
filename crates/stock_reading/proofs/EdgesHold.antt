-- The edges hold, by computation.
use mathlib.Core.Path.{refl}
use Rattle.stock_quotes.specs.Reveal.{levels_right}
use Rattle.stock_quotes.specs.Quotes.{pair_cells}
use Rattle.stock_prices.specs.Prices.{slots_cells}
use Rattle.stock_reading.specs.Reading.{format_of, checks, answer_of, message_by}
use Rattle.stock_reading.specs.Edges.{Edges, LevelEdges, PlaceEdges}

pub edges-hold : Edges
unfolding format_of checks answer_of message_by levels_right pair_cells slots_cells
edges-hold = record {
  no_bytes = refl;
  two_bytes = refl;
  bad-length = refl;
  not-27 = refl;
  notice-accepted = refl;
  notice-means = refl;
  check-byte-18 = refl;
  last-byte-0B = refl;
  first-13 = refl;
  halt-accepted = refl;
  halt-means = refl;
  reveal-A2-counts = refl;
  reveal-A2 = refl;
  reveal-DA-counts = refl;
  reveal-DA = refl;
  reveal-00 = refl;
  reveal-60 = refl;
}

pub level-edges-hold : LevelEdges
unfolding format_of checks answer_of message_by levels_right pair_cells slots_cells
level-edges-hold = record {
  reveal-81 = refl;
  reveal-81-hides = refl;
  reveal-01 = refl;
  reveal-01-hides = refl;
  reveal-00-shows = refl;
  reveal-A3 = refl;
  reveal-A3-longer = refl;
  reveal-11 = refl;
  reveal-03 = refl;
}

pub place-edges-hold : PlaceEdges
unfolding format_of checks answer_of levels_right pair_cells slots_cells
place-edges-hold = record {
  length_high = refl;
  length_last = refl;
  length_two = refl;
  length-range = refl;
  head_first = refl;
  head-last = refl;
  category-low = refl;
  halt-digit = refl;
  price-lead = refl;
}
