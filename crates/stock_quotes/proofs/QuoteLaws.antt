-- Format six is lawful: a quote and its numbers tell each other. So both round trips hold of it.
use Prim.Native.Nat.{ℕ, ◌+◌, ◌-◌, ◌*◌, ◌%◌, ◌<◌}
use mathlib.Core.Path.{◌≡◌, refl, sym, ap, ◌∙◌, subst}
use mathlib.Core.Bool.{Bool, true}
use mathlib.Core.List.{List, [], ◌∷◌, ◌++◌}
use native.Mathlib.Omega.{arith}
use lib.ListN.{length, get_or, take, drop, replicate, length-drop}
use lib.Seq.{get_or-take, get_or-drop, length-take-le}
use lib.Dec.{lit<, lit≤}
use borrow.Author.Tests.{eqb-true, eq-eqb}
use Rattle.amounts.specs.Amounts.{as_quantity}
use Rattle.amounts.specs.declared.Pair.{Pair}
use Rattle.digits.proofs.TestLaws.{holds, together, all, ◌also◌}
use Rattle.layout.specs.Cells.{decode, encode}
use Rattle.stock_frame.specs.Format.{values_of}
use Rattle.stock_frame.specs.Codec.{legal, frame_of}
use Rattle.stock_frame.specs.Outline.{own}
use Rattle.layout.proofs.CellLaws.{length-decode}
use Rattle.stock_frame.proofs.FormatLaws.{Bodied}
use Rattle.stock_frame.proofs.CodecLaws.{Lawful, Reads, legal-levels, legal-tidy, read-written, written_read, shaped-read, legal-read}
use Rattle.stock_quotes.specs.declared.Levels.{Levels}
use Rattle.stock_quotes.specs.declared.Levels.TheVariants.{NotShown}
use Rattle.stock_quotes.specs.declared.Quote.{Quote}
use Rattle.stock_quotes.specs.declared.Reveal.{Reveal}
use Rattle.stock_quotes.specs.Reveal.{levels_of, levels_bit, revealed, side_room, levels_right, pair_count}
use Rattle.stock_quotes.specs.Quotes.{pair_cells, six_cells, code_of, time_of, reveal_of, six_levels, six, no_pair, pairs_of, flat, padded, trade_part, bid_part, ask_part, quote_of, used_pairs, quote_values, zero_pairs, same_levels, tidy_quote, six_codec, ShapedQuote, LevelsSaid}
use Rattle.stock_quotes.proofs.RevealLaws.{trades-lt, bids-few, asks-few, no-bids, no-asks, bit-of, of-bit}
use Rattle.stock_quotes.proofs.PairLaws.{pairs_of-flat, flat-pairs_of, length-pairs_of, length-pair_cells, zero-pairs, zero-replicate, take-padded, drop-padded, length-padded, padded-take, trade-kept, trade-zero, trade-part, length-trade, first_part, second-part, third-part, three-parts}

-- what holds of every list of six holds of a list whose length is six
pub of-six : (P : List ℕ → Type 0) → ((a b c d e f : ℕ) → P (a ∷ b ∷ c ∷ d ∷ e ∷ f ∷ [])) → (l : List ℕ) → length l ≡ 6 → P l
of-six P p (a ∷ b ∷ c ∷ d ∷ e ∷ f ∷ []) h = p a b c d e f
of-six P p [] h = absurd (omega arith)
of-six P p (a ∷ []) h = absurd (omega arith)
of-six P p (a ∷ b ∷ []) h = absurd (omega arith)
of-six P p (a ∷ b ∷ c ∷ []) h = absurd (omega arith)
of-six P p (a ∷ b ∷ c ∷ d ∷ []) h = absurd (omega arith)
of-six P p (a ∷ b ∷ c ∷ d ∷ e ∷ []) h = absurd (omega arith)
of-six P p (a ∷ b ∷ c ∷ d ∷ e ∷ f ∷ g ∷ l) h = absurd (omega arith)

-- ---- the reveal byte stands where the cells look for it
reveal-written : (n time reveal : ℕ) (vs code : List ℕ) → length code ≡ 6 → get_or (encode (six_cells n) (code ++ (time ∷ reveal ∷ vs))) 12 0 ≡ reveal
reveal-written n time reveal vs code h = of-six (λ l. get_or (encode (six_cells n) (l ++ (time ∷ reveal ∷ vs))) 12 0 ≡ reveal) (λ a b c d e f. refl) code h

pub reveal-read : (n : ℕ) (b : List ℕ) → reveal_of (decode (six_cells n) b) ≡ get_or b 12 0
reveal-read n b = let h : 0 < 1 = lit< tt in simp (get_or-take, get_or-drop)

-- ---- a quote by its parts
abbrev pub quote_with : ℕ → List ℕ → ℕ → ℕ → ℕ → ℕ → ℕ → List Pair → Quote
quote_with seq code time r limit status total ps = record {
  seq = seq;
  code = code;
  time = time;
  reveal = r;
  limit = limit;
  status = status;
  total = as_quantity total;
  trade = get_or (trade_part (revealed r) ps) 0 no_pair;
  levels = levels_of r;
  bids = padded (bid_part (revealed r) ps);
  asks = padded (ask_part (revealed r) ps);
}

quote_of-parts : (seq time r limit status total : ℕ) (ps : List Pair) (code : List ℕ) → length code ≡ 6
    → quote_of seq (code ++ (time ∷ r ∷ limit ∷ status ∷ total ∷ flat ps)) ≡ quote_with seq code time r limit status total ps
quote_of-parts seq time r limit status total ps code h =
    of-six (λ l. quote_of seq (l ++ (time ∷ r ∷ limit ∷ status ∷ total ∷ flat ps)) ≡ quote_with seq l time r limit status total ps)
    (λ a b c d e f. ap (quote_with seq (a ∷ b ∷ c ∷ d ∷ e ∷ f ∷ []) time r limit status total) (pairs_of-flat ps)) code h

pub reveal-parts : (time r : ℕ) (vs code : List ℕ) → length code ≡ 6 → reveal_of (code ++ (time ∷ r ∷ vs)) ≡ r
reveal-parts time r vs code h = of-six (λ l. reveal_of (l ++ (time ∷ r ∷ vs)) ≡ r) (λ a b c d e f. refl) code h

-- ---- a quote's numbers give the quote
module _ (m : Quote) (s : ShapedQuote m) (levels : six_levels (quote_values m) ≡ true) (tidy : tidy_quote m ≡ true) where
  abbrev r : Reveal
  r = revealed m.reveal

  one : r.trades < 2
  one = trades-lt r m.reveal refl

  level-counts : levels_right r ≡ true
  level-counts =
      subst (λ (x : ℕ). levels_right (revealed x) ≡ true)
      (reveal-parts m.time m.reveal (m.limit ∷ m.status ∷ m.total.0 ∷ flat (used_pairs m)) m.code s.code-long) levels

  abbrev ts : List Pair
  ts = take r.trades (m.trade ∷ [])

  abbrev bs : List Pair
  bs = take r.bids m.bids

  abbrev cs : List Pair
  cs = take r.asks m.asks

  length-ts : length ts ≡ r.trades
  length-ts = length-trade r.trades one m.trade

  length-bs : length bs ≡ r.bids
  length-bs = length-take-le r.bids m.bids (omega (arith, bids-few r level-counts, s.bids-long))

  length-cs : length cs ≡ r.asks
  length-cs = length-take-le r.asks m.asks (omega (arith, asks-few r level-counts, s.asks-long))

  abbrev tests : List Bool
  tests =
      zero_pairs (drop r.trades (m.trade ∷ [])) ∷ zero_pairs (drop r.bids m.bids) ∷ zero_pairs (drop r.asks m.asks) ∷ same_levels m ∷ []

  test : (i : ℕ) → get_or tests i true ≡ true
  test = holds tests tidy

  same-trade : get_or (trade_part r (ts ++ (bs ++ cs))) 0 no_pair ≡ m.trade
  same-trade =
      ap (λ (l : List Pair). get_or l 0 no_pair) (first_part r.trades r.bids r.asks ts bs cs length-ts length-bs length-cs)
      ∙ trade-kept r.trades one m.trade (test 0)

  same-bids : padded (bid_part r (ts ++ (bs ++ cs))) ≡ m.bids
  same-bids =
      ap padded (second-part r.trades r.bids r.asks ts bs cs length-ts length-bs length-cs)
      ∙ padded-take m.bids r.bids s.bids-long (bids-few r level-counts) (test 1)

  same-asks : padded (ask_part r (ts ++ (bs ++ cs))) ≡ m.asks
  same-asks =
      ap padded (third-part r.trades r.bids r.asks ts bs cs length-ts length-bs length-cs)
      ∙ padded-take m.asks r.asks s.asks-long (asks-few r level-counts) (test 2)

  same-levels : levels_of m.reveal ≡ m.levels
  same-levels = of-bit m.levels m.reveal (eqb-true (levels_bit m.levels) (m.reveal % 2) (test 3))

  -- levels that are not shown are none, so that all of both sides is zero
  hidden : m.levels ≡ NotShown → r.levels ≡ NotShown
  hidden e = same-levels ∙ e

  unused : (ps : List Pair) (n : ℕ) → length ps ≡ side_room → n ≡ 0 → zero_pairs (drop n ps) ≡ true → ps ≡ replicate side_room no_pair
  unused ps n k e z = zero-pairs ps (ap (λ (i : ℕ). zero_pairs (drop i ps)) (sym e) ∙ z) ∙ ap (λ (i : ℕ). replicate i no_pair) k

  bids-unused : m.levels ≡ NotShown → (r.bids ≡ 0) × (m.bids ≡ replicate side_room no_pair)
  bids-unused e = let n = no-bids r level-counts (hidden e) in (n, unused m.bids r.bids s.bids-long n (test 1))

  asks-unused : m.levels ≡ NotShown → (r.asks ≡ 0) × (m.asks ≡ replicate side_room no_pair)
  asks-unused e = let n = no-asks r level-counts (hidden e) in (n, unused m.asks r.asks s.asks-long n (test 2))

  abbrev with : Pair → Levels → List Pair → List Pair → Quote
  with t l b a = record {
    seq = m.seq;
    code = m.code;
    time = m.time;
    reveal = m.reveal;
    limit = m.limit;
    status = m.status;
    total = m.total;
    trade = t;
    levels = l;
    bids = b;
    asks = a;
  }

  message-values : quote_of m.seq (quote_values m) ≡ m
  message-values =
      quote_of-parts m.seq m.time m.reveal m.limit m.status m.total.0 (used_pairs m) m.code s.code-long
      ∙ (λ i. with (same-trade i) (same-levels i) (same-bids i) (same-asks i))

-- ---- the numbers of a body give the quote that has them
module _ (seq k : ℕ) (vs : List ℕ)
    (split : vs ≡ code_of vs ++ (time_of vs ∷ reveal_of vs ∷ get_or vs 8 0 ∷ get_or vs 9 0 ∷ get_or vs 10 0 ∷ drop 11 vs))
    (six-codes : length (code_of vs) ≡ 6) (many : length (drop 11 vs) ≡ 2 * pair_count (revealed (reveal_of vs))) (levels : six_levels vs ≡ true) where
  abbrev q : Reveal
  q = revealed (reveal_of vs)

  abbrev ps : List Pair
  ps = pairs_of (drop 11 vs)

  length-ps : length ps ≡ q.trades + (q.bids + q.asks)
  length-ps = length-pairs_of (pair_count q) (drop 11 vs) many

  length-bid_part : length (bid_part q ps) ≡ q.bids
  length-bid_part = length-take-le q.bids (drop q.trades ps) (omega (arith, length-drop q.trades ps, length-ps))

  length-ask_part : length (ask_part q ps) ≡ q.asks
  length-ask_part =
      length-take-le q.asks (drop q.bids (drop q.trades ps))
      (omega (arith, length-drop q.bids (drop q.trades ps), length-drop q.trades ps, length-ps))

  used-read : used_pairs (quote_of seq vs) ≡ ps
  used-read =
      ap (λ (l : List Pair). l ++ (take q.bids (padded (bid_part q ps)) ++ take q.asks (padded (ask_part q ps))))
      (trade-part q.trades (trades-lt q (reveal_of vs) refl) ps (omega (arith, length-ps)))
      ∙ ap (λ (l : List Pair). take q.trades ps ++ (l ++ take q.asks (padded (ask_part q ps)))) (take-padded (bid_part q ps) q.bids length-bid_part)
      ∙ ap (λ (l : List Pair). take q.trades ps ++ (bid_part q ps ++ l)) (take-padded (ask_part q ps) q.asks length-ask_part)
      ∙ three-parts q.trades q.bids q.asks ps length-ps

  pub values-quote_of : quote_values (quote_of seq vs) ≡ vs
  values-quote_of =
      ap (λ (l : List ℕ). code_of vs ++ (time_of vs ∷ reveal_of vs ∷ get_or vs 8 0 ∷ get_or vs 9 0 ∷ get_or vs 10 0 ∷ l))
      (ap flat used-read ∙ flat-pairs_of (pair_count q) (drop 11 vs) many)
      ∙ sym split

  pub tidy-quote_of : tidy_quote (quote_of seq vs) ≡ true
  tidy-quote_of =
      together
      (zero_pairs (drop q.trades (get_or (trade_part q ps) 0 no_pair ∷ [])) ∷ zero_pairs (drop q.bids (padded (bid_part q ps)))
      ∷ zero_pairs (drop q.asks (padded (ask_part q ps))) ∷ same_levels (quote_of seq vs) ∷ [])
      (trade-zero q.trades (trades-lt q (reveal_of vs) refl) ps
      also (ap zero_pairs (drop-padded (bid_part q ps) q.bids length-bid_part) ∙ zero-replicate (side_room - length (bid_part q ps)))
      also (ap zero_pairs (drop-padded (ask_part q ps) q.asks length-ask_part) ∙ zero-replicate (side_room - length (ask_part q ps)))
      also eq-eqb (levels_bit (levels_of (reveal_of vs))) (reveal_of vs % 2) (bit-of (reveal_of vs))
      also all)

  pub shaped-quote_of : ShapedQuote (quote_of seq vs)
  shaped-quote_of = record {
    code-long = six-codes;
    bids-long = length-padded (bid_part q ps) q.bids length-bid_part (bids-few q levels);
    asks-long = length-padded (ask_part q ps) q.asks length-ask_part (asks-few q levels);
  }

-- ---- of a body that passes its checks
module _ (b : List ℕ) (o : Bodied six b) where
  many-numbers : length (drop 11 (values_of six b)) ≡ 2 * pair_count (revealed (reveal_of (values_of six b)))
  many-numbers =
      let k = pair_count (revealed (get_or b 12 0)) in
      length-decode (pair_cells k) _ ∙ length-pair_cells k ∙ ap (λ (x : ℕ). 2 * pair_count (revealed x)) (sym (reveal-read k b))

pub quotes-lawful : Lawful six_codec ShapedQuote
quotes-lawful = record {
  low = lit≤ tt;
  high = lit≤ tt;
  number_fits = lit< tt;
  version-fits = lit< tt;
  cells_told = λ m s f. ap (λ (x : ℕ). six_cells (pair_count (revealed x))) (reveal-written (pair_count (revealed m.reveal)) m.time m.reveal (m.limit ∷ m.status ∷ m.total.0 ∷ flat (used_pairs m)) m.code s.code-long);
  message-values = λ m s l. message-values m s (legal-levels six_codec m l) (legal-tidy six_codec m l);
  seq-message = λ n vs. refl;
  cells-message = λ n b o. ap (λ (x : ℕ). six_cells (pair_count (revealed x))) (reveal-read (pair_count (revealed (get_or b 12 0))) b);
  values-message = λ n b o. values-quote_of n 0 (values_of six b) refl refl (many-numbers b o) o.levelled;
  tidy-message = λ n b o. tidy-quote_of n 0 (values_of six b) refl refl (many-numbers b o) o.levelled;
  shaped-message = λ n b o. shaped-quote_of n 0 (values_of six b) refl refl (many-numbers b o) o.levelled;
}

-- reading a written quote gives the quote, whatever follows its frame
pub read-written-quote : (m : Quote) → ShapedQuote m → legal six_codec m ≡ true → (r : List ℕ) → Reads six_codec (frame_of six_codec m ++ r) m
read-written-quote m s l r = read-written six_codec ShapedQuote quotes-lawful m s l r

-- writing a quote that was read gives its frame's bytes
pub written-read-quote : (t : List ℕ) (m : Quote) → Reads six_codec t m → (legal six_codec m ≡ true) × (frame_of six_codec m ≡ own t)
written-read-quote t m rd = (legal-read six_codec ShapedQuote quotes-lawful t m rd, written_read six_codec ShapedQuote quotes-lawful t m rd)

-- ---- what a quote says of its levels, one that can be written and one that was read
pub written-levels : (m : Quote) → ShapedQuote m → legal six_codec m ≡ true → LevelsSaid m
written-levels m s l =
    let right = legal-levels six_codec m l in
    let tidy = legal-tidy six_codec m l in
    record { as-revealed = same-levels m s right tidy; no-bids = bids-unused m s right tidy; no-asks = asks-unused m s right tidy }

pub read-levels : (t : List ℕ) (m : Quote) → Reads six_codec t m → LevelsSaid m
read-levels t m rd = written-levels m (shaped-read six_codec ShapedQuote quotes-lawful t m rd) (legal-read six_codec ShapedQuote quotes-lawful t m rd)
