-- A row put into the lists, and its last trade read from them.
use Prim.Native.Nat.{ℕ, zero, suc, ◌+◌, ◌*◌, ◌/◌, ◌%◌, ◌≤◌, ◌<◌}
use mathlib.Core.Path.{◌≡◌, refl, sym, ap, ap₂, ◌∙◌}
use mathlib.Core.Bool.{Bool, true, false, cond}
use mathlib.Core.List.{List, [], ◌∷◌, ◌++◌, append_assoc}
use native.Mathlib.Omega.{arith}
use lib.ListN.{length, get_or, set, take, drop, length-drop}
use borrow.Rule.Slice.PartMut.{put_mid}
use lib.Seq.{sets, sets-eq, length-sets, set-get_or, get_or-take, get_or-drop, take-take, drop-drop, length-take-le}
use borrow.Author.Tests.{eq-eqb, ne_eqb}
use Rattle.std.specs.Prelude.{Option, Some, None}
use Rattle.digits.proofs.Bools.{no_false}
use Rattle.layout.proofs.ListLaws.{listed, listed-is}
use Rattle.layout.proofs.PutLaws.{sets_behind, drop-sets}
use Rattle.amounts.specs.declared.Pair.{Pair}
use Rattle.stock_frame.specs.Codec.{legal}
use Rattle.stock_quotes.specs.Quotes.{pair, six_codec, ShapedQuote}
use Rattle.stock_quotes.specs.declared.Levels.{Levels}
use Rattle.stock_quotes.specs.declared.Levels.TheVariants.{Shown, NotShown}
use Rattle.stock_quotes.specs.declared.Quote.{Quote}
use Rattle.stock_quotes.proofs.QuoteLaws.{written-levels}
use Rattle.stock_quotes_numbers.specs.Numbers.{quote_amounts}
use Rattle.stock_board.specs.declared.Row.{Row}
use Rattle.stock_board.specs.declared.Side.{Side}
use Rattle.stock_board.specs.Rows.{side, free_row, last_trade, row_after}
use Rattle.stock_board_flat.specs.Flat.{Flat, head_of, kept_of, pair_of, trade_bit, half, cells_of, shown_in, row_from, stored_at}
use Rattle.stock_board_flat.specs.Steps.{flat, Whole, with_trade, trade_in, OwnSides, keeps_sides, first_cells, last_cells, row_in}

-- ---- a message that can be written tells the sides of a new row
module _ (m : Quote) (shaped : ShapedQuote m) (right : legal six_codec m ≡ true) where
  pub own-sides : OwnSides m
  own-sides = go m.levels refl
    where
      go : (l : Levels) → m.levels ≡ l → OwnSides m
      go Shown e = record { bids-own = rw e; asks-own = rw e }
      go NotShown e =
          let b = (written-levels m shaped right).no-bids e in
          let a = (written-levels m shaped right).no-asks e in
          record {
            bids-own = rw e (sym (ap₂ side b.0 b.1));
            asks-own = rw e (sym (ap₂ side a.0 a.1));
          }

-- ---- the cells of a row behind a message that tells its sides
abbrev pub cells_by : List ℕ → Pair → ℕ → ℕ → List ℕ
cells_by n trade shown time = get_or n 0 0 ∷ trade.price.0 ∷ trade.quantity.0 ∷ (drop 3 n ++ (shown ∷ time % half ∷ time / half ∷ []))

abbrev row_with : Quote → Option Pair → Side → Side → Row
row_with m trade bids asks = record {
  code = m.code;
  time = m.time;
  limit = m.limit;
  status = m.status;
  total = m.total;
  trade = trade;
  bids = bids;
  asks = asks;
}

pub cells-made : (last trade : Option Pair) (m : Quote) → OwnSides m → (n : List ℕ) (bit shown : ℕ) (p : Pair) → trade ≡ last_trade last m.trade m.reveal → n ≡ quote_amounts m → p ≡ pair_of trade
    → bit ≡ trade_bit trade → shown ≡ 128 * bit + (16 * (m.reveal / 16 % 8 % 8) + 2 * (m.reveal / 2 % 8 % 8)) → cells_by n p shown m.time ≡ cells_of (kept_of (row_after (with_trade last) m))
unfolding kept_of row_after
cells-made last trade m o n bit shown p t e q d s =
    let low = 16 * (m.reveal / 16 % 8 % 8) + 2 * (m.reveal / 2 % 8 % 8) in
    (λ j. cells_by (e j) ((q ∙ ap pair_of t) j) ((s ∙ ap (λ (k : ℕ). 128 * k + low) (d ∙ ap trade_bit t)) j) m.time)
    ∙ (λ j. cells_of (kept_of (row_with m (last_trade last m.trade m.reveal) (sym o.bids-own j) (sym o.asks-own j))))

-- ---- a head and its cells
pub stored-by : (f : Flat) (at : ℕ) (row : Row) (m : Quote) (head : ℕ) (new cells : List ℕ) → head ≡ head_of m.code m.limit m.status
    → new ≡ cells_of (kept_of (row_after row m)) → cells ≡ sets f.cells (26 * at) new → flat (set f.heads at head) cells ≡ stored_at f at (row_after row m)
unfolding kept_of row_after
stored-by f at row m head new cells h e c = ap₂ (λ (x : ℕ) (l : List ℕ). flat (set f.heads at x) l) h (c ∙ ap (sets f.cells (26 * at)) e)

-- ---- numbers put over a part of a list
pub put-sets : (a k : ℕ) (l ys vs : List ℕ) → ys ≡ vs → k ≡ length vs → a + length vs ≤ length l → put_mid a k l ys ≡ sets l a vs
put-sets a k l ys vs e n h =
    (λ j. take a l ++ (e j ++ drop (n j) (drop a l))) ∙ ap (λ (r : List ℕ). take a l ++ (vs ++ r)) (drop-drop (length vs) a l)
    ∙ sym (append_assoc (take a l) vs (drop (a + length vs) l)) ∙ sym (sets-eq vs l a h)

-- ---- numbers put where they stand change nothing, so those of the levels need not be put
sets_same : (k i : ℕ) (l : List ℕ) → sets l i (listed k i 0 l) ≡ l
sets_same zero i l = refl
sets_same (suc k) i l = ap (λ (x : List ℕ). sets x (suc i) (listed k (suc i) 0 l)) (set-get_or l i 0) ∙ sets_same k (suc i) l

drop-taken : (k n m : ℕ) (l : List ℕ) → n + k ≤ m → take k (drop n (take m l)) ≡ take k (drop n l)
drop-taken k zero m l h = take-take k m l (omega arith)
drop-taken k (suc n) zero l h = absurd (omega arith)
drop-taken k (suc n) (suc m) [] h = refl
drop-taken k (suc n) (suc m) (x ∷ l) h = drop-taken k n m l (omega arith)

module _ (cells first last : List ℕ) (b : ℕ) (three : length first ≡ 3) (room : b + 26 ≤ length cells) where
  abbrev begun : List ℕ
  begun = sets cells b first

  abbrev part : List ℕ
  part = take 26 (drop b cells)

  levels-stay : listed 20 3 0 part ≡ listed 20 (b + 3) 0 begun
  levels-stay =
      let long : length part ≡ 26 = length-take-le 26 (drop b cells) (simp length-drop (omega arith)) in
      let same : length begun ≡ length cells = length-sets cells b first in
      listed-is 20 3 0 part (omega (arith, long)) ∙ drop-taken 20 3 26 (drop b cells) (omega arith) ∙ ap (take 20) (drop-drop 3 b cells)
      ∙ ap (take 20) (sym (drop-sets first cells b (b + 3) (omega (arith, three))))
      ∙ sym (listed-is 20 (b + 3) 0 begun (omega (arith, same)))

  pub levels-kept : sets begun (b + 23) last ≡ sets cells b (first ++ (listed 20 3 0 part ++ last))
  levels-kept =
      let mid = listed 20 (b + 3) 0 begun in
      ap (λ (x : List ℕ). sets x (b + 23) last) (sym (sets_same 20 (b + 3) begun))
      ∙ sets_behind mid last begun (b + 3) (b + 23) (omega arith)
      ∙ ap (λ (l : List ℕ). sets begun (b + 3) (l ++ last)) (sym levels-stay)
      ∙ sets_behind first (listed 20 3 0 part ++ last) cells b (b + 3) (omega (arith, three))

-- the cells of a row behind a message that does not show its levels
module _ (head : ℕ) (own : List ℕ) (m : Quote) (hidden : m.levels ≡ NotShown) where
  abbrev after : Option Pair
  after = last_trade (trade_in own) m.trade m.reveal

  marks : (shown : ℕ) → shown ≡ get_or own 23 0 % 256 → last_cells after shown m.time ≡ last_cells after (shown_in own) m.time
  marks shown e =
      let b : shown / 16 % 8 % 8 ≡ shown_in own / 16 % 8 % 8 = omega (arith, e) in
      let a : shown / 2 % 8 % 8 ≡ shown_in own / 2 % 8 % 8 = omega (arith, e) in
      ap₂ (λ (x y : ℕ). (128 * trade_bit after + (16 * x + 2 * y)) ∷ m.time % half ∷ m.time / half ∷ []) b a

  kept-cells : first_cells after m ++ (listed 20 3 0 own ++ last_cells after (shown_in own) m.time) ≡ cells_of (kept_of (row_after (row_from head own) m))
  unfolding kept_of row_after
  kept-cells =
      let shows : shown_in own % 2 ≡ 0 = omega arith in
      rw (hidden, eq-eqb (shown_in own % 2) 0 shows)

-- so a message that does not show its levels puts six cells
module _ (f : Flat) (w : Whole f) (at : ℕ) (there : at < 256) (m : Quote) (hidden : m.levels ≡ NotShown) where
  abbrev mine : List ℕ
  mine = take 26 (drop (26 * at) f.cells)

  pub trade-stored : (last trade : Option Pair) (shown head : ℕ) (ns ms c₁ c₂ : List ℕ) → last ≡ trade_in mine → trade ≡ last_trade last m.trade m.reveal → shown ≡ get_or f.cells (26 * at + 23) 0 % 256
      → head ≡ head_of m.code m.limit m.status → ns ≡ first_cells trade m → ms ≡ last_cells trade shown m.time
      → c₁ ≡ sets f.cells (26 * at) ns → c₂ ≡ sets c₁ (26 * at + 23) ms
      → flat (set f.heads at head) c₂ ≡ stored_at f at (row_after (row_in f at) m)
  trade-stored last trade shown head ns ms c₁ c₂ l t s h n e p q =
      let room : 26 * at + 26 ≤ length f.cells = omega (arith, w.cells-long) in
      let t' : trade ≡ after (get_or f.heads at 0) mine m hidden = t ∙ ap (λ (x : Option Pair). last_trade x m.trade m.reveal) l in
      let first : ns ≡ first_cells (after (get_or f.heads at 0) mine m hidden) m = n ∙ ap (λ (x : Option Pair). first_cells x m) t' in
      let shown-there : shown ≡ get_or mine 23 0 % 256 = s ∙ ap (λ (x : ℕ). x % 256) (sym (get_or-take 26 (drop (26 * at) f.cells) 23 0 (omega arith) ∙ get_or-drop (26 * at) f.cells 23 0)) in
      let last' : ms ≡ last_cells (after (get_or f.heads at 0) mine m hidden) (shown_in mine) m.time =
      e ∙ ap (λ (x : Option Pair). last_cells x shown m.time) t' ∙ marks (get_or f.heads at 0) mine m hidden shown shown-there in
      stored-by f at (row_in f at) m head _ c₂ h (kept-cells (get_or f.heads at 0) mine m hidden)
      (q ∙ ap₂ (λ (c : List ℕ) (x : List ℕ). sets c (26 * at + 23) x) (p ∙ ap (sets f.cells (26 * at)) first) last'
      ∙ levels-kept f.cells (first_cells (after (get_or f.heads at 0) mine m hidden) m) (last_cells (after (get_or f.heads at 0) mine m hidden) (shown_in mine) m.time) (26 * at) refl room)

-- ---- which of both it is
pub keeps-hidden : (l : Levels) (new : Bool) → keeps_sides l new ≡ true → (l ≡ NotShown) × (new ≡ false)
keeps-hidden Shown new e = absurd (no_false e)
keeps-hidden NotShown true e = absurd (no_false e)
keeps-hidden NotShown false e = (refl, refl)

by-trade : (row : Row) (m : Quote) → m.levels ≡ Shown → row_after (with_trade row.trade) m ≡ row_after row m
unfolding row_after
by-trade row m e = rw e

-- of a row before a message that tells its sides only the last trade counts
pub row-by-trade : (row : Row) (m : Quote) (l : Levels) (new : Bool) → m.levels ≡ l → keeps_sides l new ≡ false → row_after (with_trade (cond new None row.trade)) m ≡ row_after (cond new free_row row) m
row-by-trade row m l true s e = refl
row-by-trade row m Shown false s e = by-trade row m s
row-by-trade row m NotShown false s e = absurd (no_false (sym e))

pub trade-of : (head : ℕ) (cells : List ℕ) → trade_in cells ≡ (row_from head cells).trade
unfolding row_after
trade-of head cells = refl

-- ---- the last trade of the row at a place
module _ (cells : List ℕ) (at : ℕ) where
  abbrev own : List ℕ
  own = take 26 (drop (26 * at) cells)

  cell : (k : ℕ) → k < 26 → get_or own k 0 ≡ get_or cells (26 * at + k) 0
  cell k h = get_or-take 26 (drop (26 * at) cells) k 0 h ∙ get_or-drop (26 * at) cells k 0

  shown-is : shown_in own / 128 % 2 ≡ get_or cells (26 * at + 23) 0 % 256 / 128 % 2
  shown-is = omega (arith, cell 23 (omega arith))

  pub trade-none : get_or cells (26 * at + 23) 0 % 256 / 128 % 2 ≡ 0 → None ≡ trade_in own
  trade-none e = rw (eq-eqb (shown_in own / 128 % 2) 0 (shown-is ∙ e))

  pub trade-there : (get_or cells (26 * at + 23) 0 % 256 / 128 % 2 ≡ 0 → ⊥) → Some (pair (get_or cells (26 * at + 1) 0) (get_or cells (26 * at + 2) 0)) ≡ trade_in own
  trade-there n =
      rw (ne_eqb (shown_in own / 128 % 2) 0 (λ e. n (sym shown-is ∙ e)))
      (ap₂ (λ (p q : ℕ). Some (pair p q)) (sym (cell 1 (omega arith))) (sym (cell 2 (omega arith))))
