-- Tests joined one behind another.
use Rattle.std.specs.Prelude.{Bool, true, ◌&&◌, List, [], ◌∷◌}

-- every test holds: `a && (b && c)` of a, b and c
abbrev pub all_of : List Bool → Bool
all_of [] = true
all_of (b ∷ []) = b
all_of (b ∷ c ∷ bs) = b && all_of (c ∷ bs)
