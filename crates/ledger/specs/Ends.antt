-- What a record holds: the last number of each unbroken stretch, settled and missing by turns, from the highest down. A number is
-- settled when it was recorded, or is not above the floor.
use Rattle.std.specs.Prelude.{ℕ, ◌+◌, ◌-◌, ◌*◌, ◌/◌, ◌%◌, Bool, true, cond, ◌&&◌, List, [], ◌∷◌, ◌++◌, get_or, take, replicate, leb, ltb, eqb}

-- the highest, and two ends for each of 64 runs
abbrev pub places : ℕ
places = 129

-- each end lies below the one before it, the first below a bound; behind the last stand zeros
abbrev pub falling : ℕ → List ℕ → Bool
falling bound [] = true
falling bound (e ∷ es) = leb e (bound - 1) && falling e es

-- how many ends are a number or above it
abbrev pub ends_from : ℕ → List ℕ → ℕ
ends_from n [] = 0
ends_from n (e ∷ es) = cond (leb n e) 1 0 + ends_from n es

-- a number stands in a settled stretch when that count is odd
abbrev pub settled_at : List ℕ → ℕ → Bool
settled_at es n = eqb (ends_from n es % 2) 1

-- the first end is the highest number
abbrev pub highest_in : List ℕ → ℕ
highest_in es = get_or es 0 0

-- what is settled up to the first end: all, less what is missing; that is all up to the next end, less what is settled there; and so on
abbrev pub settled_in : List ℕ → ℕ
settled_in [] = 0
settled_in (e ∷ es) = e - settled_in es

-- the others up to the highest
abbrev pub missing_in : List ℕ → ℕ
missing_in es = highest_in es - settled_in es

-- a missing run has two ends, its own and that of the stretch below, which is 0 for a run from 1
abbrev pub runs_in : List ℕ → ℕ
runs_in es = ends_from 1 es / 2

-- the first and the last number of the run at a place, counted from the lowest
abbrev pub first_of : List ℕ → ℕ → ℕ
first_of es k = get_or es (2 * (runs_in es - k)) 0 + 1

abbrev pub last_of : List ℕ → ℕ → ℕ
last_of es k = get_or es (2 * (runs_in es - k) - 1) 0

-- an end put in at its place, or taken out if it is there: every number up to it changes sides
abbrev pub turned : ℕ → List ℕ → List ℕ
turned x [] = x ∷ []
turned x (e ∷ es) = cond (ltb x e) (e ∷ turned x es) (cond (eqb x e) es (x ∷ e ∷ es))

-- the numbers above a up to b change sides
abbrev pub with_run : ℕ → ℕ → List ℕ → List ℕ
with_run a b es = turned a (turned b es)

-- one number changes sides
abbrev pub with_number : ℕ → List ℕ → List ℕ
with_number n es = with_run (n - 1) n es

-- the lowest missing run is no longer missing: its own end and that of the stretch below go, and there are none behind them
abbrev pub without_lowest : List ℕ → List ℕ
without_lowest es = take (2 * runs_in es - 1) es

-- the floors that a series can leave beside these ends, and how many numbers are then given up: none at floor 0; else 1 to floor
-- of them, the number after the floor is settled, and so is every number up to it, no end being there
unfoldable pub floor_fits : ℕ → ℕ → List ℕ → Bool
floor_fits floor given es =
    cond (eqb floor 0) (eqb given 0)
    (leb 1 given && (leb given floor && (settled_at es (floor + 1) && eqb (ends_from 1 es) (ends_from (floor + 1) es))))

-- as many places as a record has, zeros behind the last end
abbrev pub fitted : List ℕ → List ℕ
fitted es = take places (es ++ replicate places 0)
