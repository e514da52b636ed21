-- Where a bad digit is. Halves are counted from 0, the high half of a byte first; the first bad one is told.
use Rattle.std.specs.Prelude.{ℕ, ◌+◌, ◌-◌, ◌*◌, ◌/◌, ◌%◌, ◌≤◌, ◌<◌, ◌≡◌, Bool, true, false, cond, ◌&&◌, ◌||◌, List, [], ◌∷◌, get_or, take, drop, eqb, ltb, None, Option, Some}
use Rattle.digits.specs.Packed.{width}

-- the first half above 9, where p halves stand before these bytes
abbrev pub bad_from : ℕ → List ℕ → Option ℕ
bad_from p [] = None
bad_from p (b ∷ bs) = cond (ltb 9 (b / 16)) (Some p) (cond (ltb 9 (b % 16)) (Some (p + 1)) (bad_from (p + 2) bs))

-- with an odd n the first half is no digit of a field 9(n), and has to be 0
abbrev pub bad_lead : ℕ → List ℕ → Bool
bad_lead n bs = eqb (n % 2) 1 && ltb 0 (get_or bs 0 0 / 16)

-- the first bad half of the bytes of a field 9(n)
abbrev pub bad_field : ℕ → ℕ → List ℕ → Option ℕ
bad_field n p bs = cond (bad_lead n bs) (Some p) (bad_from p bs)

-- the field 9(n) whose bytes begin at a place
abbrev pub bad_in : List ℕ → ℕ → ℕ → Option ℕ
bad_in s at n = bad_field n (2 * at) (take (width n) (drop at s))

-- so many bytes are looked at, more than any frame has
abbrev pub looked : List ℕ → List ℕ
looked s = take 65535 s

-- the first bad half of the field 9(n) whose bytes begin at a place, among those that are looked at
abbrev pub bad_at : List ℕ → ℕ → ℕ → Option ℕ
bad_at s at n = bad_in (looked s) at n

-- no half is bad
abbrev pub is_none : Option ℕ → Bool
is_none None = true
is_none (Some p) = false

-- a place with more halves before it
abbrev pub behind : ℕ → Option ℕ → Option ℕ
behind k None = None
behind k (Some p) = Some (k + p)

-- the first of two places in their order, if there is one
abbrev pub or_else : Option ℕ → Option ℕ → Option ℕ
or_else None q = q
or_else (Some p) q = Some p

-- the half at a place
abbrev pub half_at : List ℕ → ℕ → ℕ
half_at bs q = cond (eqb (q % 2) 0) (get_or bs (q / 2) 0 / 16) (get_or bs (q / 2) 0 % 16)

-- a half of the bytes of a field 9(n) is no digit there: it is above 9, or the first one of an odd n and not 0
abbrev pub is_bad : ℕ → List ℕ → ℕ → Bool
is_bad n bs q = ltb 9 (half_at bs q) || (eqb q 0 && bad_lead n bs)

-- a place, behind p halves, is the lowest at which a test holds; none is told exactly where it holds nowhere
abbrev pub Lowest : (ℕ → Bool) → ℕ → Option ℕ → Type 0
Lowest bad p None = (q : ℕ) → bad q ≡ false
Lowest bad p (Some k) = (p ≤ k) × (bad (k - p) ≡ true) × ((q : ℕ) → q < k - p → bad q ≡ false)
