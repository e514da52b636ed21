-- Text put into a lent buffer.
use Rattle.std.specs.Prelude.{ℕ, zero, suc, ◌+◌, ◌/◌, ◌%◌, max, min, ◌≡◌, cond, List, [], ◌∷◌, ◌++◌, length, leb}
use Rattle.std.proofs.lemmas.List.Edits.{sets}

-- the place behind k bytes in a buffer of n
abbrev pub behind : ℕ → ℕ → ℕ → ℕ
behind at k n = max at (min (at + k) n)

-- a call that puts a text over a buffer from a place on, answers r and leaves after; what finds no room is left out
abbrev pub Puts : List ℕ → ℕ → List ℕ → ℕ → List ℕ → Type 0
Puts text at out r after = (r ≡ behind at (length text) (length out)) × (after ≡ sets out at text)

-- the last digit of a number, in ASCII
abbrev pub last_digit : ℕ → ℕ
last_digit n = 48 + n % 10

-- a number of at most k + 1 digits in decimal, without leading zeros
abbrev pub decimal_by : ℕ → ℕ → List ℕ
decimal_by zero n = last_digit n ∷ []
decimal_by (suc k) n = cond (leb n 9) (last_digit n ∷ []) (decimal_by k (n / 10) ++ (last_digit n ∷ []))

-- no number of 64 bits has more than twenty digits
abbrev pub decimal : ℕ → List ℕ
decimal n = decimal_by 19 n

-- a number and the byte that ends it
abbrev pub field : ℕ → ℕ → List ℕ
field n end = decimal n ++ (end ∷ [])
