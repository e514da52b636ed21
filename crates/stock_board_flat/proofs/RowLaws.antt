-- The rows that the lists hold, place by place; the first row of a code, and the rows in use, by the heads alone.
use Prim.Native.Nat.{ℕ, zero, suc, ◌+◌, ◌*◌, ◌<◌}
use mathlib.Core.Path.{◌≡◌, refl, sym, ap, ap₂, ◌∙◌}
use mathlib.Core.Bool.{Bool, true, false, cond}
use mathlib.Core.List.{List, [], ◌∷◌}
use native.Mathlib.Omega.{arith}
use lib.ListN.{length, get_or, take, drop}
use lib.Seq.{drop-drop}
use Rattle.words.specs.Words.{bytes}
use Rattle.codes_times.specs.Times.{code_right}
use Rattle.stock_board.specs.Rows.{free_code, free_row, row_after}
use Rattle.stock_board.specs.Board.{same_code, has_code, is_free, first_place, place_of, free_place, used_rows}
use Rattle.stock_board.specs.declared.Row.{Row}
use Rattle.stock_board_flat.specs.Flat.{head_of, row_from, rows_from}
use Rattle.stock_board_flat.specs.Steps.{of_code, count_of, first_of}
use Rattle.stock_board_flat.proofs.CodeLaws.{code-told, free-told}

pub length-rows : (hs cs : List ℕ) → length (rows_from hs cs) ≡ length hs
length-rows [] cs = refl
length-rows (h ∷ hs) cs = ap suc (length-rows hs (drop 26 cs))

-- the row at a place
pub row-there : (hs cs : List ℕ) (i : ℕ) (d : Row) → i < length hs → get_or (rows_from hs cs) i d ≡ row_from (get_or hs i 0) (take 26 (drop (26 * i) cs))
row-there [] cs i d h = absurd (omega arith)
row-there (x ∷ hs) cs zero d h = refl
row-there (x ∷ hs) cs (suc i) d h =
    row-there hs (drop 26 cs) i d (omega arith) ∙ ap (λ (l : List ℕ). row_from (get_or hs i 0) (take 26 l)) (drop-drop (26 * i) 26 cs ∙ ap (λ (k : ℕ). drop k cs) more)
  where
    more : 26 + 26 * i ≡ 26 * suc i
    more = omega arith

-- as it is put together out of a part of the cells
pub row_made : (hs cs : List ℕ) (at n : ℕ) → at < length hs → n ≡ 26 → row_from (get_or hs at 0) (take n (drop (26 * at) cs)) ≡ get_or (rows_from hs cs) at free_row
row_made hs cs at n h e = ap (λ (k : ℕ). row_from (get_or hs at 0) (take k (drop (26 * at) cs))) e ∙ sym (row-there hs cs at free_row h)

-- the code of a row is in its head
code_of : (h : ℕ) (cs : List ℕ) → (row_from h cs).code ≡ bytes 6 h
unfolding row_after
code_of h cs = refl

-- the first row that passes a test, where the heads tell it
first-told : (p : Row → Bool) (n : ℕ) → ((h : ℕ) (cs : List ℕ) → p (row_from h cs) ≡ of_code n h) → (hs cs : List ℕ) → first_place p (rows_from hs cs) ≡ first_of n hs
first-told p n e [] cs = refl
first-told p n e (h ∷ hs) cs = ap₂ (λ (t : Bool) (k : ℕ). cond t 0 (suc k)) (e h (take 26 cs)) (first-told p n e hs (drop 26 cs))

pub free-head : (h : ℕ) (cs : List ℕ) → is_free (row_from h cs) ≡ of_code 0 h
free-head h cs = ap (same_code free_code) (code_of h cs) ∙ free-told h

pub place-told : (hs cs code : List ℕ) → length code ≡ 6 → code_right code ≡ true → place_of code (rows_from hs cs) ≡ first_of (head_of code 0 0) hs
place-told hs cs code n e = first-told (has_code code) (head_of code 0 0) (λ h ms. ap (same_code code) (code_of h ms) ∙ code-told code h n e) hs cs

pub free-place-told : (hs cs : List ℕ) → free_place (rows_from hs cs) ≡ first_of 0 hs
free-place-told hs cs = first-told is_free 0 free-head hs cs

-- the rows in use and the free ones are all
pub used-told : (hs cs : List ℕ) → used_rows (rows_from hs cs) + count_of 0 hs ≡ length hs
used-told [] cs = refl
used-told (h ∷ hs) cs =
    let u = used_rows (rows_from hs (drop 26 cs)) in
    ap (λ (t : Bool). cond t 0 1 + u + (cond (of_code 0 h) 1 0 + count_of 0 hs)) (free-head h (take 26 cs)) ∙ go (of_code 0 h) u (count_of 0 hs) (length hs) (used-told hs (drop 26 cs))
  where
    go : (t : Bool) (u k n : ℕ) → u + k ≡ n → cond t 0 1 + u + (cond t 1 0 + k) ≡ suc n
    go true u k n e = omega arith
    go false u k n e = omega arith
