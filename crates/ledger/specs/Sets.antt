-- Sets of numbers from 1 on, and what a ledger has to say of one. Nothing here knows how a ledger holds a set.
use Rattle.std.specs.Prelude.{ℕ, zero, suc, ◌+◌, ◌-◌, ◌≤◌, ◌<◌, ◌≡◌, Bool, true, false, cond, not, ◌&&◌, ◌||◌, ◌⊎◌, leb, ltb, eqb}

-- the set with a number put in
abbrev pub with : ℕ → (ℕ → Bool) → ℕ → Bool
with n f y = eqb y n || f y

-- the numbers that are not in a set
abbrev pub left_out : (ℕ → Bool) → ℕ → Bool
left_out f y = not (f y)

-- the set and every number up to a floor: of these nothing more is waited for
abbrev pub settled : ℕ → (ℕ → Bool) → ℕ → Bool
settled floor f y = leb y floor || f y

-- how many of the numbers 1 to k are in a set
abbrev pub count_to : (ℕ → Bool) → ℕ → ℕ
count_to f zero = 0
count_to f (suc k) = cond (f (suc k)) 1 0 + count_to f k

-- a missing run starts at a number that is not in the set, if it is 1 or the number before is in the set
abbrev pub starts_run : (ℕ → Bool) → ℕ → Bool
starts_run f y = not (f y) && (eqb y 1 || f (y - 1))

-- how many missing runs start at the numbers 1 to k
abbrev pub runs_to : (ℕ → Bool) → ℕ → ℕ
runs_to f k = count_to (starts_run f) k

-- a missing run ends at a number that is not in the set, if the next one is
abbrev pub ends_run : (ℕ → Bool) → ℕ → Bool
ends_run f y = not (f y) && f (y + 1)

-- the first of the numbers above a floor up to k that is in a set, and the floor if none is
abbrev pub first_above : (ℕ → Bool) → ℕ → ℕ → ℕ
first_above f floor zero = floor
first_above f floor (suc k) = let found = first_above f floor k in cond (ltb floor found) found (cond (ltb floor (suc k) && f (suc k)) (suc k) floor)

-- the highest number of a set, 0 if it has none
pub record Highest (f : ℕ → Bool) (top : ℕ) : Type 0 where
  pub there : (top ≡ 0) ⊎ (f top ≡ true)
  pub none_above : (y : ℕ) → top < y → f y ≡ false

-- a longest unbroken run of numbers above a floor, up to the highest, that are not in the set
pub record Longest (f : ℕ → Bool) (floor top first last : ℕ) : Type 0 where
  pub above_floor : floor < first
  pub in_order : first ≤ last
  pub to-highest : last ≤ top
  pub missing : (y : ℕ) → first ≤ y → y ≤ last → f y ≡ false
  pub none_below : (first ≡ floor + 1) ⊎ (f (first - 1) ≡ true)
  pub none-behind : (last ≡ top) ⊎ (f (last + 1) ≡ true)

-- runs that are the longest ones of a set above a floor, each at one place, rising by their place
pub record RunsOf (f : ℕ → Bool) (floor top runs : ℕ) (first last : ℕ → ℕ) : Type 0 where
  pub each-longest : (k : ℕ) → k < runs → Longest f floor top (first k) (last k)
  pub rising : (j k : ℕ) → j < k → k < runs → last j < first k
  pub every-longest : (a b : ℕ) → Longest f floor top a b → (k : ℕ) × (k < runs) × (first k ≡ a) × (last k ≡ b)

-- a set has so many longest missing runs above a floor
pub record HasRuns (f : ℕ → Bool) (floor top runs : ℕ) : Type 0 where
  pub first : ℕ → ℕ
  pub last : ℕ → ℕ
  pub are-runs : RunsOf f floor top runs first last

-- figures and runs that are those of a set above a floor, up to which what is left out of the set is given up
pub record TrueOf (f : ℕ → Bool) (floor highest heard missing given-up runs : ℕ) (first last : ℕ → ℕ) : Type 0 where
  pub is-highest : Highest f highest
  pub is-heard : heard ≡ count_to f highest
  pub is-given-up : given-up ≡ count_to (left_out f) floor
  pub adds-up : heard + missing + given-up ≡ highest
  pub is-runs : runs ≡ runs_to (settled floor f) highest
  pub are-runs : RunsOf f floor highest runs first last
