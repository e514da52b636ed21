-- Times and codes: rules on the numbers that cells hold.
use Rattle.std.specs.List.{list_all}
use Rattle.std.specs.Prelude.{ℕ, ◌+◌, ◌-◌, ◌/◌, ◌%◌, ◌^◌, Bool, cond, ◌&&◌, List, length, take, drop, replicate, eqb, leb, ltb}

-- a time of day: hours 00-23, minutes and seconds 00-59, then k digits of a free fraction
abbrev pub time_of_day : ℕ → ℕ → Bool
time_of_day k t = ltb (t / 10 ^ (k + 4)) 24 && (ltb (t / 10 ^ (k + 2) % 100) 60 && ltb (t / 10 ^ k % 100) 60)

-- all nines, with k digits of fraction
abbrev pub nines : ℕ → ℕ
nines k = 10 ^ (k + 6) - 1

-- a test that every byte passes
abbrev pub every : (ℕ → Bool) → List ℕ → Bool
every p bs = list_all p bs

-- the six bytes of a code at a place; past the end there are none, and zeros stand for them
abbrev pub code_at : List ℕ → ℕ → List ℕ
code_at s at = cond (leb (at + 6) (length s)) (take 6 (drop at s)) (replicate 6 0)

-- a code's bytes are 32 to 126
abbrev pub code_byte : ℕ → Bool
code_byte b = leb 32 b && leb b 126

abbrev pub code_right : List ℕ → Bool
code_right bs = every code_byte bs

-- the code `000000`, which names no stock
abbrev pub zero_code : List ℕ → Bool
zero_code bs = every (eqb 48) bs
