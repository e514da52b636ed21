-- The lists of numbers hold the rows: after any series their rows are those of the row by row board, and every answer is the same.
use Prim.Native.Nat.{ℕ, zero, suc, ◌+◌, ◌*◌, ◌/◌, ◌%◌, ◌≤◌, ◌<◌}
use mathlib.Core.Path.{◌≡◌, refl, sym, ap, ap₂, ◌∙◌, subst}
use mathlib.Core.Bool.{Bool, true, false, cond, not}
use mathlib.Core.List.{List, [], ◌∷◌, ◌++◌}
use native.Mathlib.Omega.{arith}
use lib.ListN.{length, get_or, set, take, drop, replicate, length-set, length-drop, length-replicate, replicate-append-replicate}
use lib.Seq.{sets, sets-eq, length-sets, take_at, drop_at, take-set-le, drop-set-add}
use lib.Dec.{eqb, ltb}
use borrow.Author.Tests.{eq-eqb, ltb-true}
use Rattle.amounts.specs.declared.Pair.{Pair}
use Rattle.stock_frame.specs.Codec.{legal}
use Rattle.stock_quotes.specs.Quotes.{flat, six_codec}
use Rattle.stock_quotes.specs.Reveal.{levels_of}
use Rattle.stock_quotes.specs.declared.Levels.{Levels}
use Rattle.stock_quotes.specs.declared.Levels.TheVariants.{Shown, NotShown}
use Rattle.stock_quotes.specs.declared.Quote.{Quote}
use Rattle.stock_quotes_numbers.specs.Numbers.{pairs_at}
use Rattle.stock_quotes_numbers.proofs.NumberLaws.{of-five}
use Rattle.stock_board.specs.Rows.{side, free_row, side_after, row_after}
use Rattle.std.specs.Prelude.{Some, None, Ok, Err}
use Rattle.stock_board.specs.declared.BoardError.TheVariants.{NotWritable, WrongLength, Full}
use Rattle.stock_board.specs.Board.{last_of_day, place_of, Changes, change_by, change_of, answer_of, changed, asked_of, row_at_of, in_use_of}
use Rattle.stock_board.specs.declared.Row.{Row}
use Rattle.stock_board.specs.declared.Side.{Side}
use Rattle.stock_board_flat.specs.Flat.{Flat, whole, head_of, kept_of, cells_of, shown_in, row_from, rows_from, rows_of, stored_at}
use Rattle.stock_board_flat.specs.Calls.{change_flat, taken_answer, stored, taken_flat, clear_flat, asked_flat, row_at_flat, in_use_flat}
use Rattle.stock_board_flat.specs.Steps.{Whole}
use Rattle.stock_board_flat.proofs.CodeLaws.{code-small}
use Rattle.stock_board_flat.proofs.WholeLaws.{whole_long}
use Rattle.stock_board_flat.proofs.TakeLaws.{code-is-right}
use Rattle.laws_board.specs.History.{AllOf, after, answer_to}
use Rattle.laws_board.specs.Kept.{Held, after_flat, KeptTells}
use Rattle.laws_board.proofs.RowBack.{SideFits, Storable, row_back}
use Rattle.laws_board.proofs.Told.{series-tells}

-- ---- numbers put into a list from a place on
take-sets : (n : ℕ) (vs l : List ℕ) (b : ℕ) → n ≤ b → take n (sets l b vs) ≡ take n l
take-sets n [] l b h = refl
take-sets n (v ∷ vs) l b h = take-sets n vs (set l b v) (suc b) (omega arith) ∙ take-set-le n l b v h

drop-sets-add : (n : ℕ) (vs l : List ℕ) (i b : ℕ) → b ≡ n + i → drop n (sets l b vs) ≡ sets (drop n l) i vs
drop-sets-add n [] l i b e = refl
drop-sets-add n (v ∷ vs) l i b e =
    drop-sets-add n vs (set l b v) (suc i) (suc b) (omega arith)
    ∙ ap (λ (x : List ℕ). sets x (suc i) vs) (ap (λ (k : ℕ). drop n (set l k v)) e ∙ drop-set-add n l i v)

-- ---- a head and its cells put at a place change the row there, and no other
rows-set : (hs cs : List ℕ) (at head : ℕ) (ns : List ℕ) → length ns ≡ 26 → at < length hs → 26 * length hs ≤ length cs
    → rows_from (set hs at head) (sets cs (26 * at) ns) ≡ set (rows_from hs cs) at (row_from head ns)
rows-set [] cs at head ns n h r = absurd (omega arith)
rows-set (x ∷ hs) cs zero head ns n h r =
    let room : 0 + length ns ≤ length cs = omega (arith, n) in
    let e : sets cs 0 ns ≡ ns ++ drop (0 + length ns) cs = sets-eq ns cs 0 room in
    let behind : drop 26 (sets cs 0 ns) ≡ drop 26 cs = ap (drop 26) e ∙ drop_at ns (drop (0 + length ns) cs) 26 n ∙ ap (λ (k : ℕ). drop k cs) (sum n) in
    ap₂ (λ (own rest : List ℕ). row_from head own ∷ rows_from hs rest) (ap (take 26) e ∙ take_at ns (drop (0 + length ns) cs) 26 n) behind
  where
    sum : {k : ℕ} → k ≡ 26 → 0 + k ≡ 26
    sum p = omega arith
rows-set (x ∷ hs) cs (suc i) head ns n h r =
    let more : 26 * suc i ≡ 26 + 26 * i = omega arith in
    let rest : drop 26 (sets cs (26 * suc i) ns) ≡ sets (drop 26 cs) (26 * i) ns = drop-sets-add 26 ns cs (26 * i) (26 * suc i) more in
    let room : 26 * length hs ≤ length (drop 26 cs) = simp length-drop (omega arith) in
    ap₂ (λ (own l : List ℕ). row_from x own ∷ rows_from (set hs i head) l) (take-sets 26 ns cs (26 * suc i) (omega arith)) rest
    ∙ ap (λ (l : List Row). row_from x (take 26 cs) ∷ l) (rows-set hs (drop 26 cs) i head ns n (omega arith) room)

-- ---- a row's cells are 26
cells-long : (row : Row) → Storable row → length (cells_of (kept_of row)) ≡ 26
unfolding kept_of
cells-long row s =
    of-five (λ bs. length (flat (bs ++ row.asks.levels) ++ tail) ≡ 23 → suc (suc (suc (length (flat (bs ++ row.asks.levels) ++ tail)))) ≡ 26) (λ a b c d e p. omega arith) row.bids.levels s.bids-fit.long
    (of-five (λ bs. length (flat (bs ++ row.asks.levels) ++ tail) ≡ 23)
    (λ a b c d e. of-five (λ cs. length (flat ((a ∷ b ∷ c ∷ d ∷ e ∷ []) ++ cs) ++ tail) ≡ 23) (λ f g h i j. refl) row.asks.levels s.asks-fit.long) row.bids.levels s.bids-fit.long)
  where
    tail : List ℕ
    tail = (kept_of row).reveal ∷ (kept_of row).time % 4294967296 ∷ (kept_of row).time / 4294967296 ∷ []

-- ---- a row put at its place
stored-rows : (f : Flat) (at : ℕ) (row : Row) → Whole f → at < 256 → Storable row → rows_of (stored_at f at row) ≡ set (rows_of f) at row
stored-rows f at row w h s =
    rows-set f.heads f.cells at _ (cells_of (kept_of row)) (cells-long row s) (omega (arith, h, w.heads-long)) (omega (arith, w.heads-long, w.cells-long))
    ∙ ap (set (rows_of f) at) (row_back row s)

-- the lists keep their lengths
stored-whole : (f : Flat) (at : ℕ) (row : Row) → whole f ≡ true → whole (stored_at f at row) ≡ true
unfolding whole
stored-whole f at row e = rw (length-set f.heads at (head_of (kept_of row).code (kept_of row).limit (kept_of row).status), length-sets f.cells (26 * at) (cells_of (kept_of row))) e

-- ---- what a message changes can be kept whole
free-storable : Storable free_row
free-storable = record {
  code-long = refl;
  code-bytes = small;
  limit-byte = omega arith;
  status-byte = omega arith;
  bids-fit = record { few = omega arith; long = refl };
  asks-fit = record { few = omega arith; long = refl };
}
  where
    small : (i : ℕ) → get_or (replicate 6 0) i 0 < 256
    small zero = omega arith
    small (suc zero) = omega arith
    small (suc (suc zero)) = omega arith
    small (suc (suc (suc zero))) = omega arith
    small (suc (suc (suc (suc zero)))) = omega arith
    small (suc (suc (suc (suc (suc zero))))) = omega arith
    small (suc (suc (suc (suc (suc (suc i)))))) = omega arith

-- a message that does not show its levels keeps the sides, so those have to fit
side-fits : (before : Side) → SideFits before → (l : Levels) (n : ℕ) (levels : List Pair) → n < 8 → length levels ≡ 5 → SideFits (side_after before l (side n levels))
side-fits before b Shown n levels few long = record { few = few; long = long }
side-fits before b NotShown n levels few long = b

after-storable : (row : Row) → SideFits row.bids → SideFits row.asks → (m : Quote) → Held m → legal six_codec m ≡ true → Storable (row_after row m)
unfolding row_after
after-storable row b a m h l = record {
  code-long = h.shaped.code-long;
  code-bytes = code-small m.code (code-is-right m h.shaped l);
  limit-byte = h.limit-byte;
  status-byte = h.status-byte;
  bids-fit = side-fits row.bids b m.levels (m.reveal / 16 % 8) m.bids (omega arith) h.shaped.bids-long;
  asks-fit = side-fits row.asks a m.levels (m.reveal / 2 % 8) m.asks (omega arith) h.shaped.asks-long;
}

-- a change of a row that there is, to one that can be kept
abbrev ChangeFits : Changes → Type 0
ChangeFits (Ok (Some c)) = (c.at < 256) × Storable c.row
ChangeFits (Ok None) = Unit {0}
ChangeFits (Err e) = Unit {0}

change-fits : (n own : ℕ) (row : Row) → SideFits row.bids → SideFits row.asks → (free : ℕ) (m : Quote) → Held m → ChangeFits (change_by n own row free m)
unfolding change_by
change-fits n own row b a free m h = go (eqb n 256) (legal six_codec m) refl (last_of_day m) (ltb own 256) refl (ltb free 256) refl
  where
    go : (w r : Bool) → legal six_codec m ≡ r → (c d : Bool) → ltb own 256 ≡ d → (e : Bool) → ltb free 256 ≡ e
        → ChangeFits (cond (not w) (Err WrongLength) (cond (not r) (Err NotWritable) (cond c (Ok None)
        (cond d (Ok (Some (record { at = own; row = row_after row m }))) (cond e (Ok (Some (record { at = free; row = row_after free_row m }))) (Err Full))))))
    go false r p c d o e f = tt
    go true false p c d o e f = tt
    go true true p true d o e f = tt
    go true true p false true o e f = (ltb-true own 256 o, after-storable row b a m h p)
    go true true p false false o true f = (ltb-true free 256 f, after-storable free_row free-storable.bids-fit free-storable.asks-fit m h p)
    go true true p false false o false f = tt

-- so the lists behind it are a whole board, and hold the rows behind it
stored-change : (f : Flat) (c : Changes) → whole f ≡ true → ChangeFits c → (whole (stored f c) ≡ true) × (rows_of (stored f c) ≡ changed (rows_of f) c)
stored-change f (Ok (Some c)) all fit = (stored-whole f c.at c.row all, stored-rows f c.at c.row (whole_long f all) fit.0 fit.1)
stored-change f (Ok None) all fit = (all, refl)
stored-change f (Err e) all fit = (all, refl)

-- the sides of every row that the lists hold do
row_fits : (head : ℕ) (cells : List ℕ) → SideFits (row_from head cells).bids × SideFits (row_from head cells).asks
unfolding row_after
row_fits head cells =
    let l = levels_of (shown_in cells) in (
      side-fits free_row.bids free-storable.bids-fit l (shown_in cells / 16 % 8) (pairs_at cells 5 3) (omega arith) refl,
      side-fits free_row.asks free-storable.asks-fit l (shown_in cells / 2 % 8) (pairs_at cells 5 13) (omega arith) refl,
    )

rows_fit : (hs cs : List ℕ) (i : ℕ) → SideFits (get_or (rows_from hs cs) i free_row).bids × SideFits (get_or (rows_from hs cs) i free_row).asks
rows_fit [] cs i = (free-storable.bids-fit, free-storable.asks-fit)
rows_fit (x ∷ hs) cs zero = row_fits x (take 26 cs)
rows_fit (x ∷ hs) cs (suc i) = rows_fit hs (drop 26 cs) i

-- ---- the promise for the lists: after any series they are a whole board, whose rows are those of the series
pub record Keeps (ms : List Quote) : Type 0 where
  pub all : whole (after_flat ms) ≡ true
  pub rows : rows_of (after_flat ms) ≡ after ms

-- n zeros
abbrev zeros : ℕ → List ℕ
zeros n = replicate n 0

zero_row : row_from 0 (replicate 26 0) ≡ free_row
unfolding row_after
zero_row = refl

clear-rows : (n k : ℕ) → k ≡ 26 * n → rows_from (zeros n) (zeros k) ≡ replicate n free_row
clear-rows zero k e = refl
clear-rows (suc n) k e =
    let more : k ≡ 26 + 26 * n = omega arith in
    let split : zeros k ≡ zeros 26 ++ zeros (26 * n) = ap zeros more ∙ sym (replicate-append-replicate 26 (26 * n) 0) in
    ap₂ (λ (own rest : List ℕ). row_from 0 own ∷ rows_from (zeros n) rest) (ap (take 26) split) (ap (drop 26) split)
    ∙ ap₂ (λ (row : Row) (l : List Row). row ∷ l) zero_row (clear-rows n (26 * n) refl)

zeros-whole : (n k : ℕ) → n ≡ 256 → k ≡ 6656 → whole (record { heads = zeros n; cells = zeros k }) ≡ true
unfolding whole
zeros-whole n k p q = rw (eq-eqb (length (zeros n)) 256 (length-replicate n 0 ∙ p), eq-eqb (length (zeros k)) 6656 (length-replicate k 0 ∙ q))

clear-keeps : Keeps []
unfolding clear_flat
clear-keeps = record { all = zeros-whole 256 6656 refl refl; rows = clear-rows 256 6656 refl }

change-is : (m : Quote) (ms : List Quote) → Keeps ms → change_flat (after_flat ms) m ≡ change_of (after ms) m
unfolding change_flat
change-is m ms K = rw K.all (ap (λ (l : List Row). change_of l m) K.rows)

module _ (m : Quote) (ms : List Quote) (held : Held m) (K : Keeps ms) where
  abbrev f : Flat
  f = after_flat ms

  fits : (i : ℕ) → SideFits (get_or (after ms) i free_row).bids × SideFits (get_or (after ms) i free_row).asks
  fits i = subst (λ (rows : List Row). SideFits (get_or rows i free_row).bids × SideFits (get_or rows i free_row).asks) K.rows (rows_fit f.heads f.cells i)

  change_fits : ChangeFits (change_flat f m)
  unfolding change_of
  change_fits =
      let fit = fits (place_of m.code (after ms)) in
      subst ChangeFits (sym (change-is m ms K)) (change-fits _ _ _ fit.0 fit.1 _ m held)

  keeps-next : Keeps (m ∷ ms)
  unfolding taken_flat
  keeps-next =
      let both = stored-change f (change_flat f m) K.all change_fits in
      record { all = both.0; rows = both.1 ∙ ap₂ changed K.rows (change-is m ms K) }

pub flat-series : (ms : List Quote) → AllOf Held ms → Keeps ms
flat-series [] h = clear-keeps
flat-series (m ∷ ms) h = keeps-next m ms h.0 (flat-series ms h.1)

-- ---- and every call answers what the messages say
pub flat-answers : (m : Quote) (ms : List Quote) → Keeps ms → taken_answer (after_flat ms) m ≡ answer_to ms m
flat-answers m ms K = ap answer_of (change-is m ms K)

pub flat-tells : (ms : List Quote) → AllOf Held ms → KeptTells ms
unfolding asked_flat row_at_flat in_use_flat
flat-tells ms h =
    let K = flat-series ms h in
    let T = (series-tells ms).calls in
    record {
      answers = λ m. flat-answers m ms K ∙ T.answers m;
      asked = λ code e. rw K.all (ap (λ (rows : List Row). asked_of rows code) K.rows ∙ T.asked code e);
      in_use = rw K.all (ap in_use_of K.rows ∙ T.in_use);
      row_at = λ at. rw K.all (ap (λ (rows : List Row). row_at_of rows at) K.rows ∙ T.row_at at);
    }
