-- The sums of some bytes, by computation.
use mathlib.Core.Path.{refl}
use Rattle.fletcher.specs.Fletcher.{fletcher}
use Rattle.fletcher.specs.Edges.{Edges}

pub edges-hold : Edges
unfolding fletcher
edges-hold = record { nothing = refl; five-letters = refl; six-letters = refl; eight-letters = refl; one-255 = refl; adds-to-255 = refl }
