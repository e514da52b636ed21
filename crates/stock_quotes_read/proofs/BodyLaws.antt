-- The checks of a quote's body, and what each step of reading it answers.
use Prim.Native.Nat.{ℕ, ◌+◌, ◌-◌, ◌*◌, ◌≤◌, ◌<◌}
use mathlib.Core.Path.{◌≡◌, sym, ap, ap₂, ◌∙◌}
use mathlib.Core.Bool.{true, false, cond}
use mathlib.Core.List.{List, ◌++◌}
use native.Mathlib.Omega.{arith}
use lib.ListN.{length, get_or, take, drop}
use lib.Seq.{drop-drop}
use lib.Dec.{eqb, leb}
use borrow.Author.Tests.{le-leb, lt-leb, eq-eqb, ne_eqb}
use Rattle.digits.specs.Packed.{value}
use Rattle.amounts.specs.Amounts.{as_quantity}
use Rattle.amounts.specs.declared.Pair.{Pair}
use Rattle.amounts.specs.declared.Quantity.{Quantity}
use Rattle.digits.proofs.Bools.{and_both}
use Rattle.layout.specs.Cells.{Cell, good_cells, decode}
use Rattle.layout.specs.Places.{first_bad}
use Rattle.layout.proofs.PlaceLaws.{first_bad-enough}
use Rattle.answers.specs.declared.Answer.{Answer}
use Rattle.layout.specs.Checks.{first_fail}
use Rattle.stock_frame.specs.Format.{values_of, ranged, body_checks, body_half, digit_answer, around}
use Rattle.stock_frame.proofs.BodyCheckLaws.{fails-digits, digit-answer}
use Rattle.codes_times.specs.Times.{code_right}
use Rattle.layout.proofs.CellLaws.{length-decode}
use Rattle.codes_times.proofs.RuleLaws.{six-bytes}
use Rattle.stock_quotes.specs.declared.Reveal.{Reveal}
use Rattle.stock_quotes.specs.Reveal.{revealed, levels_right, pair_count}
use Rattle.stock_quotes.specs.Quotes.{pair_cells, six_cells, body_length, code_of, time_of, six_levels, quote_timed, six_timed, six, no_pair, pairs_of, pairs_in, padded, trade_part, bid_part, ask_part, quote_of, no_quote, quote_reading}
use Rattle.stock_quotes_read.specs.Steps.{most_pairs, refused_reading, without_quote, accepted_reading, Dictated, SidesOf, FixedOf}
use Rattle.stock_quotes.proofs.PairLaws.{length-pairs_of, length-pair_cells, size-six, six-cells-append, length-dictated, first_part, second-part, third-part}
use Rattle.stock_quotes.proofs.QuoteLaws.{quote_with, reveal-read}
use Rattle.stock_quotes_read.proofs.SideLaws.{pairs-append}
use Rattle.stock_quotes_read.proofs.ReadLaws.{code-six, time-six, limit-six, status-six, total-six, pairs-six, reading-by}

-- ---- a length outside the range
module _ (seq : ℕ) (b : List ℕ) where
  pub too_short : length b < 19 → refused_reading 9 (length b + 13) ≡ quote_reading seq b
  too_short h =
      let e : leb 32 (around + length b) ≡ false = lt-leb 32 (around + length b) (omega arith) in
      reading-by seq b 9 (rw e)

  pub too_long : 118 < length b → refused_reading 9 (length b + 13) ≡ quote_reading seq b
  too_long h =
      let e : leb 32 (around + length b) ≡ true = le-leb 32 (around + length b) (omega arith) in
      let f : leb (around + length b) 131 ≡ false = lt-leb (around + length b) 131 (omega arith) in
      reading-by seq b 9 (rw (e, f))

-- ---- what the reveal byte shows
module _ (seq : ℕ) (b : List ℕ) (low : 19 ≤ length b) (high : length b ≤ 118) (r : Reveal) (shown : r ≡ revealed (get_or b 12 0)) where
  in-range : ranged six (length b) ≡ true
  in-range = and_both (le-leb 32 (around + length b) (omega arith)) (le-leb (around + length b) 131 (omega arith))

  levels-are : six_levels (values_of six b) ≡ levels_right r
  levels-are = ap (λ (x : ℕ). levels_right (revealed x)) (reveal-read (pair_count (revealed (get_or b 12 0))) b) ∙ ap levels_right (sym shown)

  pub levels-fail : levels_right r ≡ false → refused_reading 10 (length b + 13) ≡ quote_reading seq b
  levels-fail e = reading-by seq b 10 (rw (in-range, levels-are ∙ e))

  pub other_length : levels_right r ≡ true → (length b ≡ body_length (get_or b 12 0) → ⊥) → refused_reading 9 (length b + 13) ≡ quote_reading seq b
  other_length l other =
      let e : eqb (body_length (get_or b 12 0)) (length b) ≡ false = ne_eqb (body_length (get_or b 12 0)) (length b) (λ q. other (sym q)) in
      reading-by seq b 9 (rw (in-range, levels-are ∙ l, e))

-- ---- a length that the reveal byte dictates: the checks from the digits on
module _ (seq : ℕ) (b : List ℕ) (r : Reveal) (d : Dictated b r) where
  abbrev n : ℕ
  n = pair_count r

  low : 19 ≤ length b
  low = omega (arith, d.as_long)

  high : length b ≤ 118
  high = omega (arith, d.few-trades, d.few-bids, d.few-asks, d.as_long)

  ranges : ranged six (length b) ≡ true
  ranges = in-range seq b low high r d.shown

  count-is : pair_count (revealed (get_or b 12 0)) ≡ n
  count-is = ap pair_count (sym d.shown)

  levels-hold : six_levels (values_of six b) ≡ true
  levels-hold = levels-are seq b low high r d.shown ∙ d.right

  size_holds : eqb (body_length (get_or b 12 0)) (length b) ≡ true
  size_holds = eq-eqb (body_length (get_or b 12 0)) (length b) (sym (d.as_long ∙ length-dictated r (get_or b 12 0) d.shown))

  code_is : code_of (values_of six b) ≡ take 6 b
  code_is = code-six (pair_count (revealed (get_or b 12 0))) b (omega (arith, low)) ∙ six-bytes b 0 (omega (arith, low))

  time-is : time_of (values_of six b) ≡ value (take 6 (drop 6 b))
  time-is = time-six (pair_count (revealed (get_or b 12 0))) b

  pub timed-is : six_timed (values_of six b) ≡ quote_timed (take 6 b) (value (take 6 (drop 6 b)))
  timed-is = ap₂ quote_timed code_is time-is

  good-is : good_cells (six_cells (pair_count (revealed (get_or b 12 0)))) b ≡ good_cells (six_cells n) b
  good-is = ap (λ (k : ℕ). good_cells (six_cells k) b) count-is

  -- the cells of pairs that there are not have no bytes
  few : n ≤ most_pairs
  few = omega (arith, d.few-trades, d.few-bids, d.few-asks)

  same_place : first_bad (six_cells most_pairs) body_half b ≡ first_bad (six.cells b) body_half b
  same_place =
      let k : n + (most_pairs - n) ≡ most_pairs = omega (arith, few) in
      ap (λ (m : ℕ). first_bad (six_cells m) body_half b) (sym k)
      ∙ ap (λ (cs : List Cell). first_bad cs body_half b) (six-cells-append n (most_pairs - n))
      ∙ first_bad-enough (six_cells n) (pair_cells (most_pairs - n)) body_half b (omega (arith, d.as_long, size-six n))
      ∙ ap (λ (m : ℕ). first_bad (six_cells m) body_half b) (sym count-is)

  pub digits-fail : good_cells (six_cells n) b ≡ false → without_quote (digit_answer (six_cells most_pairs) b) ≡ quote_reading seq b
  unfolding quote_reading
  digits-fail e =
      let fails = fails-digits six b ranges levels-hold size_holds (good-is ∙ e) in
      ap₂ (λ (a : Answer) (k : ℕ). record { answer = a; quote = cond (eqb k 0) (quote_of seq (values_of six b)) no_quote })
      (digit-answer six seq b (six_cells most_pairs) same_place (omega (arith, high)) fails) (sym fails)

  module _ (g : good_cells (six_cells n) b ≡ true) where
    pub time-fails : six_timed (values_of six b) ≡ false → refused_reading 12 (length b + 13) ≡ quote_reading seq b
    time-fails e = reading-by seq b 12 (rw (ranges, levels-hold, size_holds, good-is ∙ g, e))

    module _ (t : six_timed (values_of six b) ≡ true) where
      pub code-fails : code_right (take 6 b) ≡ false → refused_reading 13 (length b + 13) ≡ quote_reading seq b
      code-fails e = reading-by seq b 13 (rw (ranges, levels-hold, size_holds, good-is ∙ g, t, ap code_right code_is ∙ e))

      all_hold_lem : code_right (take 6 b) ≡ true → first_fail (body_checks six b) ≡ 0
      all_hold_lem e = rw (ranges, levels-hold, size_holds, good-is ∙ g, t, ap code_right code_is ∙ e)

  -- ---- the message
  length-pairs_in : (k : ℕ) (x : List ℕ) → length (pairs_in k x) ≡ k
  length-pairs_in k x = length-pairs_of k (decode (pair_cells k) x) (length-decode (pair_cells k) x ∙ length-pair_cells k)

  abbrev ts : List Pair
  ts = pairs_in r.trades (drop 19 b)

  abbrev bs : List Pair
  bs = pairs_in r.bids (drop (19 + 9 * r.trades) b)

  abbrev cs : List Pair
  cs = pairs_in r.asks (drop (19 + 9 * r.trades + 9 * r.bids) b)

  pairs-are : pairs_of (drop 11 (values_of six b)) ≡ ts ++ (bs ++ cs)
  pairs-are =
      pairs-six (pair_count (revealed (get_or b 12 0))) b ∙ ap (λ (k : ℕ). pairs_in k (drop 19 b)) count-is
      ∙ pairs-append r.trades (r.bids + r.asks) (drop 19 b)
      ∙ ap (λ (l : List Pair). ts ++ l)
      (pairs-append r.bids r.asks (drop (9 * r.trades) (drop 19 b))
      ∙ ap₂ (λ (x y : List ℕ). pairs_in r.bids x ++ pairs_in r.asks y)
      (drop-drop (9 * r.trades) 19 b) (ap (drop (9 * r.bids)) (drop-drop (9 * r.trades) 19 b) ∙ drop-drop (9 * r.bids) (19 + 9 * r.trades) b))

  abbrev R : Reveal
  R = revealed (get_or b 12 0)

  long-ts : length ts ≡ r.trades
  long-ts = length-pairs_in r.trades (drop 19 b)

  long-bs : length bs ≡ r.bids
  long-bs = length-pairs_in r.bids (drop (19 + 9 * r.trades) b)

  long-cs : length cs ≡ r.asks
  long-cs = length-pairs_in r.asks (drop (19 + 9 * r.trades + 9 * r.bids) b)

  trade-part-is : ts ≡ trade_part R (ts ++ (bs ++ cs))
  trade-part-is =
      sym (first_part r.trades r.bids r.asks ts bs cs long-ts long-bs long-cs) ∙ ap (λ (x : Reveal). trade_part x (ts ++ (bs ++ cs))) d.shown

  bid-part-is : bs ≡ bid_part R (ts ++ (bs ++ cs))
  bid-part-is =
      sym (second-part r.trades r.bids r.asks ts bs cs long-ts long-bs long-cs) ∙ ap (λ (x : Reveal). bid_part x (ts ++ (bs ++ cs))) d.shown

  ask-part-is : cs ≡ ask_part R (ts ++ (bs ++ cs))
  ask-part-is =
      sym (third-part r.trades r.bids r.asks ts bs cs long-ts long-bs long-cs) ∙ ap (λ (x : Reveal). ask_part x (ts ++ (bs ++ cs))) d.shown

  pub accepts : (first last : ℕ) (total : Quantity) (trade : Pair) (bids asks : List Pair) → FixedOf b first last total → SidesOf b r trade bids asks
      → good_cells (six_cells n) b ≡ true → six_timed (values_of six b) ≡ true → code_right (take 6 b) ≡ true
      → accepted_reading seq b (first * 100000000 + last) total trade bids asks ≡ quote_reading seq b
  accepts first last total trade bids asks p s g t e =
      let k = pair_count (revealed (get_or b 12 0)) in
      let limit = limit-six k b in
      let status = status-six k b in
      let parts_said : accepted_reading seq b (first * 100000000 + last) total trade bids asks
      ≡ accepted_reading seq b (value (take 6 (drop 6 b))) (as_quantity (value (take 4 (drop 15 b))))
      (get_or (trade_part R (ts ++ (bs ++ cs))) 0 no_pair) (padded (bid_part R (ts ++ (bs ++ cs)))) (padded (ask_part R (ts ++ (bs ++ cs)))) =
      λ i. accepted_reading seq b (p.time-is i) (p.total-is i)
      ((s.trade-is ∙ ap (λ (l : List Pair). get_or l 0 no_pair) trade-part-is) i)
      ((s.bids-are ∙ ap padded bid-part-is) i) ((s.asks-are ∙ ap padded ask-part-is) i) in
      parts_said
      ∙ (λ i. record {
        answer = Rattle.answers.specs.declared.Answer.TheVariants.Accepted (record { format = 6; seq = seq; length = length b + 13 });
        quote = quote_with seq (sym code_is i) (sym time-is i) (sym (reveal-read k b) i) (sym limit i) (sym status i) (sym (total-six k b) i) (sym pairs-are i);
      })
      ∙ reading-by seq b 0 (all_hold_lem g t e)
