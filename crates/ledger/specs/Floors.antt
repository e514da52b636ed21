-- Which floors, and how many numbers given up, a series of arrivals and give-ups can leave: said of numbers alone.
use Rattle.std.specs.Prelude.{ℕ, ◌+◌, ◌<◌, ◌≡◌, Bool, cond, ◌&&◌, List, leb, ltb, eqb}
use Rattle.ledger.specs.Sets.{left_out, count_to}
use Rattle.ledger.specs.History.{Event, recorded, floor_after}

-- none given up at floor 0; else 1 to floor of them, the floor below the highest, and the number after the floor recorded
abbrev pub can_leave : (ℕ → Bool) → ℕ → ℕ → ℕ → Bool
can_leave f highest floor given =
    cond (eqb floor 0) (eqb given 0) (leb 1 given && (leb given floor && (ltb floor highest && f (floor + 1))))

-- a series that leaves them, and has recorded the numbers of a set and no other above the floor
pub record Leaves (f : ℕ → Bool) (floor given : ℕ) : Type 0 where
  pub series : List Event
  pub its-floor : floor_after series ≡ floor
  pub its-count : count_to (left_out (recorded series)) floor ≡ given
  pub its-numbers : (y : ℕ) → floor < y → recorded series y ≡ f y
