-- Walking a line: what each answer does to the place. It is said of any reading.
use Rattle.std.specs.Prelude.{ℕ, zero, suc, ◌+◌, Bool, cond, not, ◌&&◌, ◌||◌, List, [], ◌∷◌, length, drop, eqb, leb}

-- a reading: what it says of the bytes from a place, the answer number of that, and the length of the frame it speaks of
pub record Reading (A : Type 0) : Type 0 where
  pub says : List ℕ → A
  pub number : A → ℕ
  pub size : A → ℕ

-- a move: its place, what was said there, and the bytes that it takes
pub record Move (A : Type 0) : Type 0 where
  pub at : ℕ
  pub said : A
  pub bytes : ℕ

-- 0 and 6 to 13 move past the whole frame
abbrev pub is_whole : ℕ → Bool
is_whole n = eqb n 0 || leb 6 n

-- what a move takes: the whole frame, or one byte
abbrev pub taken : {A : Type 0} → Reading A → A → ℕ
taken R a = cond (is_whole (R.number a)) (R.size a) 1

-- 2 stops an open line; a closed one only at its end
abbrev pub stops : {A : Type 0} → Reading A → Bool → List ℕ → Bool
stops R closed t = eqb (R.number (R.says t)) 2 && (not closed || eqb (length t) 0)

-- the moves over the bytes from a place on, k at most
abbrev pub moves : {A : Type 0} → Reading A → Bool → ℕ → ℕ → List ℕ → List (Move A)
moves R closed zero at t = []
moves R closed (suc k) at t =
    let a = R.says t in
    let n = taken R a in
    cond (stops R closed t) [] (record { at = at; said = a; bytes = n } ∷ moves R closed k (at + n) (drop n t))

-- the bytes behind them, which wait
abbrev pub left : {A : Type 0} → Reading A → Bool → ℕ → List ℕ → List ℕ
left R closed zero t = t
left R closed (suc k) t = cond (stops R closed t) t (left R closed k (drop (taken R (R.says t)) t))

-- the walk over all bytes from a place on: no move takes less than a byte, so it has no more moves than bytes
abbrev pub walk_from : {A : Type 0} → Reading A → Bool → ℕ → List ℕ → List (Move A)
walk_from R closed at t = moves R closed (length t) at t

abbrev pub rest_of : {A : Type 0} → Reading A → Bool → List ℕ → List ℕ
rest_of R closed t = left R closed (length t) t

-- the walk over a line
abbrev pub walk : {A : Type 0} → Reading A → Bool → List ℕ → List (Move A)
walk R closed line = walk_from R closed 0 line

-- a property of every move
abbrev pub Each : {A : Type 0} → (Move A → Type 0) → List (Move A) → Type 0
Each P [] = Unit {0}
Each P (m ∷ ms) = P m × Each P ms
