-- A row put into the lists is the row that they tell, and no other row changes.
use Prim.Native.Nat.{ℕ, zero, suc, ◌+◌, ◌*◌, ◌/◌, ◌%◌, ◌≤◌, ◌<◌}
use mathlib.Core.Path.{◌≡◌, refl, sym, ap, ap₂, ◌∙◌, subst}
use mathlib.Core.List.{List, [], ◌∷◌, ◌++◌}
use native.Mathlib.Omega.{arith}
use native.Mathlib.Nat.{mod-add-div}
use lib.ListN.{length, get_or, take, drop}
use lib.Seq.{get_or-append-add}
use borrow.Author.Tests.{eq-eqb, ne_eqb}
use Rattle.words.specs.Words.{bytes}
use Rattle.stock_quotes.specs.Reveal.{levels_of}
use Rattle.stock_quotes.specs.declared.Levels.TheVariants.{Shown}
use Rattle.stock_quotes.specs.Quotes.{ShapedQuote}
use Rattle.stock_quotes.specs.declared.Quote.{Quote}
use Rattle.stock_quotes.proofs.QuoteLaws.{of-six}
use Rattle.stock_quotes_numbers.specs.Numbers.{quote_bytes, quote_amounts, quote_from}
use Rattle.stock_quotes_numbers.proofs.NumberLaws.{length-amounts, quote-before}
use Rattle.stock_board.specs.Rows.{free_row, side, last_trade, row_after}
use Rattle.std.specs.Prelude.{Option, Some, None}
use Rattle.amounts.specs.declared.Pair.{Pair}
use Rattle.stock_board.specs.declared.Side.{Side}
use Rattle.stock_board.specs.declared.Row.{Row}
use Rattle.stock_board_flat.specs.Flat.{number_of, head_of, marks_of, pair_of, trade_bit, shown_of, kept_of, half, cells_of, shown_in, time_in, quote_in, row_from}

-- ---- a side, and a row, that can be kept whole
pub record SideFits (s : Side) : Type 0 where
  pub few : s.count < 8
  pub long : length s.levels ≡ 5

pub record Storable (row : Row) : Type 0 where
  pub code-long : length row.code ≡ 6
  pub code-bytes : (i : ℕ) → get_or row.code i 0 < 256
  pub limit-byte : row.limit < 256
  pub status-byte : row.status < 256
  pub bids-fit : SideFits row.bids
  pub asks-fit : SideFits row.asks

-- ---- bytes as a number, and back
bytes-number : (s : List ℕ) → ((i : ℕ) → get_or s i 0 < 256) → bytes (length s) (number_of s) ≡ s
bytes-number [] h = refl
bytes-number (b ∷ s) h =
    let low = h 0 in
    let r : (b + 256 * number_of s) % 256 ≡ b = omega arith in
    let q : (b + 256 * number_of s) / 256 ≡ number_of s = omega arith in
    ap₂ (λ (x : ℕ) (l : List ℕ). x ∷ l) r (ap (bytes (length s)) q ∙ bytes-number s (λ i. h (suc i)))

marks-back : (code : List ℕ) (limit status shown : ℕ) → length code ≡ 6 → ((i : ℕ) → get_or code i 0 < 256) → limit < 256 → status < 256
    → marks_of (head_of code limit status) shown ≡ code ++ (shown ∷ limit ∷ status ∷ [])
marks-back code limit status shown n =
    of-six (λ c. ((i : ℕ) → get_or c i 0 < 256) → limit < 256 → status < 256 → marks_of (head_of c limit status) shown ≡ c ++ (shown ∷ limit ∷ status ∷ []))
    (λ a b c d e f h l s. ap (λ (x : List ℕ). take 6 x ++ (shown ∷ drop 6 x)) (bytes-number (a ∷ b ∷ c ∷ d ∷ e ∷ f ∷ limit ∷ status ∷ []) (each a b c d e f h l s))) code n
  where
    each : (a b c d e f : ℕ) → ((i : ℕ) → get_or (a ∷ b ∷ c ∷ d ∷ e ∷ f ∷ []) i 0 < 256) → limit < 256 → status < 256 → (i : ℕ) → get_or (a ∷ b ∷ c ∷ d ∷ e ∷ f ∷ limit ∷ status ∷ []) i 0 < 256
    each a b c d e f h l s zero = h 0
    each a b c d e f h l s (suc zero) = h 1
    each a b c d e f h l s (suc (suc zero)) = h 2
    each a b c d e f h l s (suc (suc (suc zero))) = h 3
    each a b c d e f h l s (suc (suc (suc (suc zero)))) = h 4
    each a b c d e f h l s (suc (suc (suc (suc (suc zero))))) = h 5
    each a b c d e f h l s (suc (suc (suc (suc (suc (suc zero)))))) = l
    each a b c d e f h l s (suc (suc (suc (suc (suc (suc (suc zero))))))) = s
    each a b c d e f h l s (suc (suc (suc (suc (suc (suc (suc (suc i)))))))) = omega arith

-- ---- the quote that is kept of a row is the one that its numbers tell
module _ (q : Quote) (s : ShapedQuote q) where
  abbrev head : ℕ
  head = head_of q.code q.limit q.status

  abbrev behind : List ℕ
  behind = q.reveal ∷ q.time % half ∷ q.time / half ∷ []

  -- the cells behind a quote's amounts
  cell : (i : ℕ) → get_or (cells_of q) (23 + i) 0 ≡ get_or behind i 0
  cell i = subst (λ (n : ℕ). get_or (cells_of q) (n + i) 0 ≡ get_or behind i 0) (length-amounts q s) (get_or-append-add (quote_amounts q) behind i 0)

  time-told : time_in (cells_of q) ≡ q.time
  time-told = ap₂ (λ (low high : ℕ). low + half * high) (cell 1) (cell 2) ∙ mod-add-div q.time half

  kept-told : q.seq ≡ 0 → ((i : ℕ) → get_or q.code i 0 < 256) → q.limit < 256 → q.status < 256 → q.reveal < 256 → q.reveal % 2 ≡ 0 → q.levels ≡ Shown → quote_in head (cells_of q) ≡ q
  kept-told none codes limits states small even shown =
      let whole : q.reveal % 256 / 2 * 2 ≡ q.reveal = omega (arith, small, even) in
      let marks : marks_of head (shown_in (cells_of q)) ≡ quote_bytes q =
      ap (λ (x : ℕ). marks_of head (x % 256 / 2 * 2)) (cell 0) ∙ ap (marks_of head) whole ∙ marks-back q.code q.limit q.status q.reveal s.code-long codes limits states in
      let said : levels_of q.reveal ≡ Shown = rw (eq-eqb (q.reveal % 2) 0 even) in
      ap₂ (λ (ms : List ℕ) (t : ℕ). quote_from 0 ms t (cells_of q)) marks time-told
      ∙ ap (λ (n : ℕ). quote_from n (quote_bytes q) q.time (cells_of q)) (sym none)
      ∙ quote-before q s behind (said ∙ sym shown)

-- ---- and the row that the quote leaves of a free one is the row
trade-back : (t : Option Pair) (low : ℕ) → low < 128 → last_trade None (pair_of t) (128 * trade_bit t + low) ≡ t
trade-back None low h = let z : (128 * 0 + low) / 128 % 2 ≡ 0 = omega arith in rw (eq-eqb ((128 * 0 + low) / 128 % 2) 0 z)
trade-back (Some p) low h =
    let z : (128 * 1 + low) / 128 % 2 ≡ 1 = omega arith in
    rw (ne_eqb ((128 * 1 + low) / 128 % 2) 0 (λ e. absurd (omega (arith, z, e))))

bids-back : (t b a : ℕ) → t ≤ 1 → b < 8 → (128 * t + (16 * (b % 8) + 2 * (a % 8))) / 16 % 8 ≡ b
bids-back t b a h k = omega arith

asks_back : (t b a : ℕ) → t ≤ 1 → a < 8 → (128 * t + (16 * (b % 8) + 2 * (a % 8))) / 2 % 8 ≡ a
asks_back t b a h k = omega arith

bit-small : (t : Option Pair) → trade_bit t ≤ 1
bit-small None = omega arith
bit-small (Some p) = omega arith

pub kept_back : (row : Row) → Storable row → row_after free_row (kept_of row) ≡ row
unfolding row_after kept_of
kept_back row s =
    let low = 16 * (row.bids.count % 8) + 2 * (row.asks.count % 8) in
    λ j. record {
      code = row.code;
      time = row.time;
      limit = row.limit;
      status = row.status;
      total = row.total;
      trade = trade-back row.trade low (omega arith) j;
      bids = side (bids-back (trade_bit row.trade) row.bids.count row.asks.count (bit-small row.trade) s.bids-fit.few j) row.bids.levels;
      asks = side (asks_back (trade_bit row.trade) row.bids.count row.asks.count (bit-small row.trade) s.asks-fit.few j) row.asks.levels;
    }

-- ---- so a row's own head and cells tell it
pub row_back : (row : Row) → Storable row → row_from (head_of (kept_of row).code (kept_of row).limit (kept_of row).status) (cells_of (kept_of row)) ≡ row
unfolding kept_of
row_back row s =
    let few : shown_of row < 256 = omega (arith, bit-small row.trade) in
    let even : shown_of row % 2 ≡ 0 = omega arith in
    let shaped : ShapedQuote (kept_of row) = record { code-long = s.code-long; bids-long = s.bids-fit.long; asks-long = s.asks-fit.long } in
    ap (row_after free_row) (kept-told (kept_of row) shaped refl s.code-bytes s.limit-byte s.status-byte few even refl) ∙ kept_back row s
