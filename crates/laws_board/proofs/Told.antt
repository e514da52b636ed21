-- The promise over histories: after any series of messages from a clear board, what each call tells.
use Prim.Native.Nat.{ℕ, zero, suc, ◌+◌, ◌-◌, ◌≤◌, ◌<◌}
use mathlib.Core.Path.{◌≡◌, refl, ap, ◌∙◌}
use mathlib.Core.Bool.{Bool, true, false, cond, not, ◌&&◌}
use mathlib.Core.List.{List, [], ◌∷◌, ◌++◌, map}
use native.Mathlib.Omega.{arith}
use lib.ListN.{length, get_or, replicate, length-append, length-map, length-replicate}
use lib.Dec.{ltb}
use borrow.Author.Tests.{eq-eqb, lt-ltb, le-ltb, ltb-true, ltb-false}
use Rattle.digits.proofs.Bools.{and_left}
use Rattle.codes_times.specs.Times.{code_right, zero_code}
use Rattle.stock_quotes.specs.declared.Quote.{Quote}
use Rattle.stock_board.specs.Rows.{free_code, free_row}
use Rattle.stock_board.specs.Board.{same_code, is_free, place_of, stock_code, asked_of, row_at_of, in_use_of}
use Rattle.stock_board.specs.declared.Row.{Row}
use Rattle.std.specs.Prelude.{Ok}
use Rattle.laws_board.specs.History.{Code, among, listed, said, found, missing, Tells}
use Rattle.laws_board.proofs.CodeLaws.{place_in, Coded, Stocks}
use Rattle.laws_board.proofs.ListedLaws.{rows, place-mapped, place-below, get-mapped, used-mapped}
use Rattle.laws_board.proofs.Series.{State, right-code, next, state}

-- ---- the row at a place
get_at : (f : Code → Row) (cs : List Code) (l : List Row) (i : ℕ) (d : Row) → i < length cs → get_or (map f cs ++ l) i d ≡ f (get_or cs i [])
get_at f [] l i d h = absurd (omega arith)
get_at f (c ∷ cs) l zero d h = refl
get_at f (c ∷ cs) l (suc i) d h = get_at f cs l i d (omega arith)

used-at : (f : Code → Row) (cs : List Code) (i : ℕ) → Coded f cs → Stocks cs → i < length cs → is_free (f (get_or cs i [])) ≡ false
used-at f [] i c s h = absurd (omega arith)
used-at f (x ∷ cs) zero c s h = ap (same_code free_code) c.0 ∙ s.0
used-at f (x ∷ cs) (suc i) c s h = used-at f cs i c.1 s.1 (omega arith)

free-at : (k i : ℕ) → get_or (replicate k free_row) i free_row ≡ free_row
free-at zero i = refl
free-at (suc k) zero = refl
free-at (suc k) (suc i) = free-at k i

get-behind : (f : Code → Row) (cs : List Code) (k i : ℕ) → length cs ≤ i → get_or (rows f cs k) i free_row ≡ free_row
get-behind f [] k i h = free-at k i
get-behind f (c ∷ cs) k zero h = absurd (omega arith)
get-behind f (c ∷ cs) k (suc i) h = get-behind f cs k i (omega arith)

module _ (ms : List Quote) where
  abbrev S : State ms
  S = state ms

  abbrev cs : List Code
  cs = listed ms

  abbrev f : Code → Row
  f c = said c ms

  abbrev k : ℕ
  k = 256 - length cs

  abbrev R : List Row
  R = rows f cs k

  full : length R ≡ 256
  full = simp (length-append, length-map, length-replicate) (omega (arith, S.few))

  asked-told : (code : Code) → stock_code code ≡ true → asked_of R code ≡ cond (among code cs) (found (f code)) missing
  unfolding asked_of
  asked-told code e = rw (eq-eqb (length R) 256 full, e) (go (among code cs) refl)
    where
      place : place_of code R ≡ cond (among code cs) (place_in code cs) (length cs + k)
      place = place-mapped code f cs k S.coded (right-code code (and_left (code_right code) (not (zero_code code)) e))

      go : (t : Bool) → among code cs ≡ t
          → cond (ltb (place_of code R) 256) (Ok (get_or R (place_of code R) free_row)) missing ≡ cond t (found (f code)) missing
      go true p =
          let here : place_of code R ≡ place_in code cs = place ∙ ap (λ (t : Bool). cond t (place_in code cs) (length cs + k)) p in
          rw (lt-ltb (place_of code R) 256 (omega (arith, here, place-below code cs p, S.few))) (ap found (ap (λ (n : ℕ). get_or R n free_row) here ∙ get-mapped code f cs (replicate k free_row) free_row p))
      go false p =
          let gone : place_of code R ≡ length cs + k = place ∙ ap (λ (t : Bool). cond t (place_in code cs) (length cs + k)) p in
          rw (le-ltb (place_of code R) 256 (omega (arith, gone, S.few)))

  used-told : in_use_of R ≡ Ok (length cs)
  used-told = rw (eq-eqb (length R) 256 full, used-mapped f cs k S.coded S.stocks)

  no_row : (t : Bool) → cond (t && false) (Ok free_row) missing ≡ missing
  no_row true = refl
  no_row false = refl

  row_told : (at : ℕ) → row_at_of R at ≡ cond (ltb at (length cs)) (found (f (get_or cs at []))) missing
  unfolding row_at_of
  row_told at = rw (eq-eqb (length R) 256 full) (go (ltb at (length cs)) refl)
    where
      go : (t : Bool) → ltb at (length cs) ≡ t
          → cond (ltb at 256 && not (is_free (get_or R at free_row))) (Ok (get_or R at free_row)) missing ≡ cond t (found (f (get_or cs at []))) missing
      go true p =
          let h = ltb-true at (length cs) p in
          let row : get_or R at free_row ≡ f (get_or cs at []) = get_at f cs (replicate k free_row) at free_row h in
          rw (lt-ltb at 256 (omega (arith, h, S.few)), row, used-at f cs at S.coded S.stocks h)
      go false p =
          let row : get_or R at free_row ≡ free_row = get-behind f cs k at (ltb-false at (length cs) p) in
          ap (λ (r : Row). cond (ltb at 256 && not (is_free r)) (Ok r) missing) row ∙ no_row (ltb at 256)

-- the theorem
pub series-tells : (ms : List Quote) → Tells ms
series-tells ms =
    let b = (state ms).board in
    record {
      board = b;
      calls = record {
        answers = λ m. (next m ms (state ms)).1;
        asked = λ code e. ap (λ (l : List Row). asked_of l code) b ∙ asked-told ms code e;
        in_use = ap in_use_of b ∙ used-told ms;
        row_at = λ at. ap (λ (l : List Row). row_at_of l at) b ∙ row_told ms at;
      };
    }
