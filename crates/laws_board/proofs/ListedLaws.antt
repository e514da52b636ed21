-- The rows of listed stocks with free rows behind them: where a code's row and the first free one stand, and one of them changed.
use Prim.Native.Nat.{ℕ, zero, suc, ◌+◌, ◌<◌}
use mathlib.Core.Path.{◌≡◌, refl, sym, ap, ap₂, ◌∙◌}
use mathlib.Core.Bool.{Bool, true, false, cond, ◌||◌}
use mathlib.Core.List.{List, [], ◌∷◌, ◌++◌, map}
use native.Mathlib.Omega.{arith}
use lib.ListN.{length, get_or, set, replicate}
use Rattle.digits.proofs.Bools.{no_false}
use Rattle.stock_board.specs.Rows.{free_code, free_row}
use Rattle.stock_board.specs.Board.{same_code, place_of, free_place, used_rows}
use Rattle.stock_board.specs.declared.Row.{Row}
use Rattle.laws_board.specs.History.{Code, among}
use Rattle.laws_board.proofs.CodeLaws.{same-eq, same-sym, or_left, or_right, place_in, Distinct, Coded, Stocks}

-- the rows, and k free ones
abbrev pub rows : (Code → Row) → List Code → ℕ → List Row
rows f cs k = map f cs ++ replicate k free_row

-- ---- no free row has a stock's code
free-place : (x : Code) (k : ℕ) → same_code x free_code ≡ false → place_of x (replicate k free_row) ≡ k
free-place x zero e = refl
free-place x (suc k) e = ap₂ (λ (t : Bool) (n : ℕ). cond t 0 (suc n)) e (free-place x k e)

-- ---- where a code's row stands
pub place-mapped : (x : Code) (f : Code → Row) (cs : List Code) (k : ℕ) → Coded f cs → same_code x free_code ≡ false
    → place_of x (rows f cs k) ≡ cond (among x cs) (place_in x cs) (length cs + k)
place-mapped x f [] k h e = free-place x k e ∙ omega arith
place-mapped x f (c ∷ cs) k h e =
    ap₂ (λ (t : Bool) (n : ℕ). cond t 0 (suc n)) (ap (same_code x) h.0) (place-mapped x f cs k h.1 e) ∙ go (same_code x c) (among x cs)
  where
    go : (t u : Bool) → cond t 0 (suc (cond u (place_in x cs) (length cs + k))) ≡ cond (t || u) (cond t 0 (suc (place_in x cs))) (suc (length cs) + k)
    go true u = refl
    go false true = refl
    go false false = omega arith

-- its place is one of theirs
pub place-below : (x : Code) (cs : List Code) → among x cs ≡ true → place_in x cs < length cs
place-below x [] e = absurd (no_false e)
place-below x (c ∷ cs) e = go (same_code x c) refl (place-below x cs)
  where
    go : (t : Bool) → same_code x c ≡ t → (among x cs ≡ true → place_in x cs < length cs) → cond t 0 (suc (place_in x cs)) < suc (length cs)
    go true p ih = omega arith
    go false p ih = omega (arith, ih (sym (ap (λ (t : Bool). t || among x cs) p) ∙ e))

-- ---- the first free row stands behind them
pub free-mapped : (f : Code → Row) (cs : List Code) (k : ℕ) → Coded f cs → Stocks cs → free_place (rows f cs k) ≡ length cs
free-mapped f [] zero h s = refl
free-mapped f [] (suc k) h s = refl
free-mapped f (c ∷ cs) k h s = ap₂ (λ (t : Bool) (n : ℕ). cond t 0 (suc n)) (ap (same_code free_code) h.0 ∙ s.0) (free-mapped f cs k h.1 s.1)

-- and so many are in use
free-used : (k : ℕ) → used_rows (replicate k free_row) ≡ 0
free-used zero = refl
free-used (suc k) = omega (arith, free-used k)

pub used-mapped : (f : Code → Row) (cs : List Code) (k : ℕ) → Coded f cs → Stocks cs → used_rows (rows f cs k) ≡ length cs
used-mapped f [] k h s = free-used k
used-mapped f (c ∷ cs) k h s =
    ap₂ (λ (t : Bool) (n : ℕ). cond t 0 1 + n) (ap (same_code free_code) h.0 ∙ s.0) (used-mapped f cs k h.1 s.1) ∙ omega arith

-- ---- the row of a listed code
pub get-mapped : (x : Code) (f : Code → Row) (cs : List Code) (l : List Row) (d : Row) → among x cs ≡ true → get_or (map f cs ++ l) (place_in x cs) d ≡ f x
get-mapped x f [] l d e = absurd (no_false e)
get-mapped x f (c ∷ cs) l d e = go (same_code x c) refl (get-mapped x f cs l d)
  where
    go : (t : Bool) → same_code x c ≡ t → (among x cs ≡ true → get_or (map f cs ++ l) (place_in x cs) d ≡ f x) → get_or (f c ∷ (map f cs ++ l)) (cond t 0 (suc (place_in x cs))) d ≡ f x
    go true p ih = ap f (sym (same-eq x c p))
    go false p ih = ih (sym (ap (λ (t : Bool). t || among x cs) p) ∙ e)

-- ---- a code that is not listed is said nothing new of
pub map_other : (x : Code) (f g : Code → Row) (cs : List Code) → ((c : Code) → same_code c x ≡ false → g c ≡ f c) → among x cs ≡ false → map g cs ≡ map f cs
map_other x f g [] e h = refl
map_other x f g (c ∷ cs) e h =
    ap₂ (λ (r : Row) (l : List Row). r ∷ l) (e c (same-sym x c false (or_left (same_code x c) (among x cs) h))) (map_other x f g cs e (or_right (same_code x c) (among x cs) h))

-- ---- one listed code's row changes, and no other
pub set-mapped : (x : Code) (f g : Code → Row) (v : Row) (cs : List Code) (l : List Row) → g x ≡ v → ((c : Code) → same_code c x ≡ false → g c ≡ f c) → Distinct cs → among x cs ≡ true
    → set (map f cs ++ l) (place_in x cs) v ≡ map g cs ++ l
set-mapped x f g v [] l q e d h = absurd (no_false h)
set-mapped x f g v (c ∷ cs) l q e d h = go (same_code x c) refl (set-mapped x f g v cs l q e d.1)
  where
    go : (t : Bool) → same_code x c ≡ t → (among x cs ≡ true → set (map f cs ++ l) (place_in x cs) v ≡ map g cs ++ l)
        → set (f c ∷ (map f cs ++ l)) (cond t 0 (suc (place_in x cs))) v ≡ g c ∷ (map g cs ++ l)
    go true p ih =
        let s = same-eq x c p in
        ap₂ (λ (r : Row) (m : List Row). r ∷ (m ++ l)) (sym q ∙ ap g s) (sym (map_other x f g cs e (ap (λ (y : Code). among y cs) s ∙ d.0)))
    go false p ih = ap₂ (λ (r : Row) (m : List Row). r ∷ m) (sym (e c (same-sym x c false p))) (ih (sym (ap (λ (t : Bool). t || among x cs) p) ∙ h))

-- ---- a new code takes the first free row
pub set_new : (x : Code) (f g : Code → Row) (v : Row) (cs : List Code) (k : ℕ) → g x ≡ v → ((c : Code) → same_code c x ≡ false → g c ≡ f c) → among x cs ≡ false
    → set (rows f cs (suc k)) (length cs) v ≡ rows g (cs ++ (x ∷ [])) k
set_new x f g v [] k q e h = ap (λ (r : Row). r ∷ replicate k free_row) (sym q)
set_new x f g v (c ∷ cs) k q e h =
    ap₂ (λ (r : Row) (l : List Row). r ∷ l) (sym (e c (same-sym x c false (or_left (same_code x c) (among x cs) h)))) (set_new x f g v cs k q e (or_right (same_code x c) (among x cs) h))

-- ---- a list with one code more keeps what it has
pub distinct-end : (x : Code) (cs : List Code) → Distinct cs → among x cs ≡ false → Distinct (cs ++ (x ∷ []))
distinct-end x [] d h = (refl, tt)
distinct-end x (c ∷ cs) d h =
    (among-other c x cs d.0 (same-sym x c false (or_left (same_code x c) (among x cs) h)), distinct-end x cs d.1 (or_right (same_code x c) (among x cs) h))
  where
    among-other : (c x : Code) (cs : List Code) → among c cs ≡ false → same_code c x ≡ false → among c (cs ++ (x ∷ [])) ≡ false
    among-other c x [] h e = ap (λ (t : Bool). t || false) e
    among-other c x (b ∷ cs) h e =
        ap₂ (λ (t u : Bool). t || u) (or_left (same_code c b) (among c cs) h) (among-other c x cs (or_right (same_code c b) (among c cs) h) e)

pub stocks-end : (x : Code) (cs : List Code) → Stocks cs → same_code free_code x ≡ false → Stocks (cs ++ (x ∷ []))
stocks-end x [] s e = (e, tt)
stocks-end x (c ∷ cs) s e = (s.0, stocks-end x cs s.1 e)

pub length-end : (x : Code) (cs : List Code) → length (cs ++ (x ∷ [])) ≡ length cs + 1
length-end x [] = refl
length-end x (c ∷ cs) = omega (arith, length-end x cs)
