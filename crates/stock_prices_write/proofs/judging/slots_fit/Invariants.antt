-- `judging::slots_fit` meets its contract. The loop's invariant: the slots from i on fit where all do.
use Prim.Native.Nat.{◌-◌}
use mathlib.Core.Path.{◌≡◌}
use lib.ListN.{drop}
use Rattle.layout.specs.Cells.{fits}
use Rattle.stock_prices.specs.Prices.{slots_cells, slots_values}
use Rattle.stock_prices_write.proofs.judging.slots_fit.Given as goal

abbrev pub invariant-loop-i : goal.invariant-loop-i
invariant-loop-i l = fits (slots_cells (10 - l.i)) (slots_values (drop l.i l.slots)) ≡ fits (slots_cells 10) (slots_values l.slots)
