-- `put_pairs` meets its contract. The loop's invariant: the first i pairs stand at their place.
use mathlib.Core.Path.{◌≡◌}
use lib.ListN.{take}
use lib.Seq.{sets}
use Rattle.layout.specs.Cells.{encode}
use Rattle.stock_quotes.specs.Quotes.{pair_cells, flat}
use Rattle.stock_quotes_write.proofs.put_pairs.Given as goal

abbrev pub invariant-loop-i : goal.invariant-loop-i
invariant-loop-i l = l.buf ≡ sets l.initial.buf l.at (encode (pair_cells l.i) (flat (take l.i l.pairs)))
