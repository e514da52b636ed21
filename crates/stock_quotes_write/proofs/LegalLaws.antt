-- Which quotes are legal: the tests that the code makes, one by one, are what the format's rules come to.
use Prim.Native.Nat.{ℕ, zero, suc, ◌+◌, ◌*◌, ◌/◌, ◌%◌, ◌^◌, ◌≤◌, ◌<◌}
use mathlib.Core.Path.{◌≡◌, refl, sym, ap, ap₂, ◌∙◌}
use mathlib.Core.Bool.{Bool, true, false, ◌&&◌, and-false}
use mathlib.Core.List.{List, [], ◌∷◌, ◌++◌}
use native.Mathlib.Omega.{arith}
use lib.ListN.{length, get_or, take, drop, replicate}
use lib.Seq.{take_at, get_or_at, length-take-le}
use lib.Dec.{leb, ltb}
use borrow.Author.Tests.{lt-ltb, ltb-true, le-leb, leb-true}
use Rattle.amounts.specs.declared.Pair.{Pair}
use Rattle.digits.specs.Tests.{all_of}
use Rattle.digits.proofs.Bools.{and_both, both_true, no_false}
use Rattle.digits.proofs.TestLaws.{holds, together, Each, all, ◌also◌}
use Rattle.layout.specs.Cells.{Cell, raw, digits, size, fits}
use Rattle.layout.proofs.RawLaws.{fits-raws}
use Rattle.codes_times.specs.Times.{code_right}
use Rattle.stock_frame.specs.Format.{ranged, around}
use Rattle.stock_frame.specs.Codec.{legal}
use Rattle.stock_frame.proofs.CodecLaws.{legal-seq, legal-levels, legal-fits, legal-timed, legal-ruled, legal-tidy}
use Rattle.stock_quotes.specs.declared.Quote.{Quote}
use Rattle.stock_quotes.specs.declared.Reveal.{Reveal}
use Rattle.stock_quotes.specs.Reveal.{revealed, levels_right, pair_count}
use Rattle.stock_quotes.specs.Quotes.{pair_cells, six_cells, code_of, time_of, reveal_of, six_levels, quote_timed, six_timed, six_ruled, six, flat, used_pairs, quote_values, zero_pairs, same_levels, six_codec, ShapedQuote}
use Rattle.stock_quotes.proofs.RevealLaws.{bids-few, asks-few}
use Rattle.stock_quotes.proofs.TimeLaws.{timed-small}
use Rattle.stock_quotes.proofs.PairLaws.{size-six, length-trade}
use Rattle.stock_quotes.proofs.QuoteLaws.{reveal-parts}
use Rattle.stock_quotes_write.specs.Steps.{pair_right, part_right, pair_tests, pairs_right}
use Rattle.stock_quotes_write.proofs.PartLaws.{part_right_lem, part-one, fits-append}

-- ---- two tests that follow from each other are the same
same : (a b : Bool) → (a ≡ true → b ≡ true) → (b ≡ true → a ≡ true) → a ≡ b
same true b f g = sym (f refl)
same false true f g = g refl
same false false f g = refl

-- ---- a test that fails makes all fail
fails : (bs : List Bool) (i : ℕ) → get_or bs i true ≡ false → false ≡ all_of bs
fails [] i e = sym e
fails (b ∷ []) zero e = sym e
fails (b ∷ []) (suc i) e = absurd (no_false (sym e))
fails (b ∷ c ∷ bs) zero e = sym (ap (λ (t : Bool). t && all_of (c ∷ bs)) e)
fails (b ∷ c ∷ bs) (suc i) e = sym (and-false b) ∙ ap (λ (t : Bool). b && t) (fails (c ∷ bs) i e)

-- ---- the time by its two parts
pub time-parts : (code : List ℕ) (t : ℕ) (r : Bool) → r ≡ quote_timed code (t / 100000000 * 100000000 + t % 100000000) → r ≡ quote_timed code t
time-parts code t r e =
    let whole : t / 100000000 * 100000000 + t % 100000000 ≡ t = omega arith in
    e ∙ ap (quote_timed code) whole

pub time-long : (code : List ℕ) (t : ℕ) → 999999999999 < t → false ≡ quote_timed code t
time-long code t h = go (quote_timed code t) refl
  where
    go : (x : Bool) → quote_timed code t ≡ x → false ≡ x
    go false e = refl
    go true e = absurd (omega (arith, timed-small code t e))

-- ---- the pairs' tests, one by one
module _ (r : Reveal) (m : Quote) where
  -- as the code makes them
  abbrev coded : List Bool
  coded = levels_right r ∷ pair_right (ltb 0 r.trades) m.trade ∷ part_right r.bids m.bids ∷ part_right r.asks m.asks ∷ []

  pairs-told : all_of coded ≡ pairs_right r m
  unfolding pairs_right
  pairs-told = ap (λ (t : Bool). levels_right r && (t && (part_right r.bids m.bids && part_right r.asks m.asks))) (part-one r.trades m.trade)

  pub pairs-wrong : (i : ℕ) → get_or coded i true ≡ false → false ≡ pairs_right r m
  pairs-wrong i e = fails coded i e ∙ pairs-told

  pub asks-last : levels_right r ≡ true → pair_right (ltb 0 r.trades) m.trade ≡ true → part_right r.bids m.bids ≡ true → part_right r.asks m.asks ≡ pairs_right r m
  asks-last l t b = sym (λ i. l i && (t i && (b i && part_right r.asks m.asks))) ∙ pairs-told

  pub each-pair : pairs_right r m ≡ true → (i : ℕ) → get_or (pair_tests r m) i true ≡ true
  unfolding pairs_right
  each-pair h = holds (pair_tests r m) h

  all-pairs : Each (pair_tests r m) → pairs_right r m ≡ true
  unfolding pairs_right
  all-pairs ps = together (pair_tests r m) ps

module _ (m : Quote) (shaped : ShapedQuote m) where
  abbrev r : Reveal
  r = revealed m.reveal

  abbrev rest : List ℕ
  rest = m.limit ∷ m.status ∷ m.total.0 ∷ flat (used_pairs m)

  -- ---- the numbers by their places
  code-told : code_of (quote_values m) ≡ m.code
  code-told = take_at m.code (m.time ∷ m.reveal ∷ rest) 6 shaped.code-long

  time-told : time_of (quote_values m) ≡ m.time
  time-told = get_or_at m.code m.time (m.reveal ∷ rest) 0 6 shaped.code-long

  reveal-told : reveal_of (quote_values m) ≡ m.reveal
  reveal-told = reveal-parts m.time m.reveal rest m.code shaped.code-long

  levels-told : six_levels (quote_values m) ≡ levels_right r
  levels-told = ap (λ (x : ℕ). levels_right (revealed x)) reveal-told

  timed-told : six_timed (quote_values m) ≡ quote_timed m.code m.time
  timed-told = ap₂ quote_timed code-told time-told

  ruled-told : six_ruled (quote_values m) ≡ code_right m.code
  ruled-told = ap code_right code-told

  -- ---- the used pairs of each part, whether they fit, and whether the others are zero
  abbrev ts : List Pair
  ts = take r.trades (m.trade ∷ [])

  abbrev bs : List Pair
  bs = take r.bids m.bids

  abbrev cs : List Pair
  cs = take r.asks m.asks

  abbrev tf : Bool
  tf = fits (pair_cells r.trades) (flat ts)

  abbrev bf : Bool
  bf = fits (pair_cells r.bids) (flat bs)

  abbrev cf : Bool
  cf = fits (pair_cells r.asks) (flat cs)

  abbrev tz : Bool
  tz = zero_pairs (drop r.trades (m.trade ∷ []))

  abbrev bz : Bool
  bz = zero_pairs (drop r.bids m.bids)

  abbrev cz : Bool
  cz = zero_pairs (drop r.asks m.asks)

  module _ (levels : levels_right r ≡ true) where
    pub length-ts : length ts ≡ r.trades
    length-ts = length-trade r.trades (omega arith) m.trade

    pub length-bs : length bs ≡ r.bids
    length-bs = length-take-le r.bids m.bids (omega (arith, shaped.bids-long, bids-few r levels))

    pub trade-is : part_right r.trades (m.trade ∷ []) ≡ tf && tz
    trade-is = part_right_lem r.trades (m.trade ∷ []) (omega arith)

    pub bids-is : part_right r.bids m.bids ≡ bf && bz
    bids-is = part_right_lem r.bids m.bids (omega (arith, shaped.bids-long, bids-few r levels))

    pub asks-is : part_right r.asks m.asks ≡ cf && cz
    asks-is = part_right_lem r.asks m.asks (omega (arith, shaped.asks-long, asks-few r levels))

    -- the cells that the numbers fit
    fits_told : fits (six_cells (pair_count r)) (quote_values m) ≡ ltb m.time (10 ^ 12) && (ltb m.total.0 (10 ^ 8) && (tf && (bf && cf)))
    fits_told =
        let cells : List Cell = digits 12 ∷ raw ∷ raw ∷ raw ∷ digits 8 ∷ pair_cells (pair_count r) in
        ap (λ (n : ℕ). fits (replicate n raw ++ cells) (quote_values m)) (sym shaped.code-long)
        ∙ fits-raws m.code cells (m.time ∷ m.reveal ∷ rest)
        ∙ ap (λ (t : Bool). ltb m.time (10 ^ 12) && (ltb m.total.0 (10 ^ 8) && t))
        (fits-append r.trades (r.bids + r.asks) ts (bs ++ cs) length-ts
        ∙ ap (λ (t : Bool). tf && t) (fits-append r.bids r.asks bs cs length-bs))

    in-range : ranged six (size (six_cells (pair_count r))) ≡ true
    in-range =
        let e : size (six_cells (pair_count r)) ≡ 19 + 9 * pair_count r = size-six (pair_count r) in
        let b = bids-few r levels in
        let a = asks-few r levels in
        and_both (le-leb 32 (around + size (six_cells (pair_count r))) (omega arith)) (le-leb (around + size (six_cells (pair_count r))) 131 (omega arith))

  -- ---- the tests that the code makes tell what is legal, and back
  abbrev pub tests : List Bool
  tests = leb m.seq 99999999 ∷ quote_timed m.code m.time ∷ code_right m.code ∷ leb m.total.0 99999999 ∷ same_levels m ∷ pairs_right r m ∷ []

  pub tests-of : legal six_codec m ≡ true → all_of tests ≡ true
  tests-of l =
      let levels : levels_right r ≡ true = sym levels-told ∙ legal-levels six_codec m l in
      let fit = holds (ltb m.time (10 ^ 12) ∷ ltb m.total.0 (10 ^ 8) ∷ tf ∷ bf ∷ cf ∷ []) (sym (fits_told levels) ∙ legal-fits six_codec m l) in
      let zero = holds (tz ∷ bz ∷ cz ∷ same_levels m ∷ []) (legal-tidy six_codec m l) in
      together tests
      (le-leb m.seq 99999999 (omega (arith, legal-seq six_codec m l))
      also (sym timed-told ∙ legal-timed six_codec m l)
      also (sym ruled-told ∙ legal-ruled six_codec m l)
      also le-leb m.total.0 99999999 (omega (arith, ltb-true m.total.0 (10 ^ 8) (fit 1)))
      also zero 3
      also all-pairs r m
      (levels
      also (trade-is levels ∙ and_both (fit 2) (zero 0))
      also (bids-is levels ∙ and_both (fit 3) (zero 1))
      also (asks-is levels ∙ and_both (fit 4) (zero 2))
      also all)
      also all)

  of-tests : all_of tests ≡ true → legal six_codec m ≡ true
  of-tests h =
      let test = holds tests h in
      let part = each-pair r m (test 5) in
      let levels = part 0 in
      let t = both_true tf tz (sym (trade-is levels) ∙ part 1) in
      let b = both_true bf bz (sym (bids-is levels) ∙ part 2) in
      let a = both_true cf cz (sym (asks-is levels) ∙ part 3) in
      let seq-fits = leb-true m.seq 99999999 (test 0) in
      let total-fits = leb-true m.total.0 99999999 (test 3) in
      together
      (ltb m.seq (10 ^ 8) ∷ ranged six (size (six_cells (pair_count r))) ∷ six_levels (quote_values m) ∷ fits (six_cells (pair_count r)) (quote_values m)
      ∷ six_timed (quote_values m) ∷ six_ruled (quote_values m) ∷ tz ∷ bz ∷ cz ∷ same_levels m ∷ [])
      (lt-ltb m.seq (10 ^ 8) (omega arith)
      also in-range levels
      also (levels-told ∙ levels)
      also (fits_told levels
      ∙ together (ltb m.time (10 ^ 12) ∷ ltb m.total.0 (10 ^ 8) ∷ tf ∷ bf ∷ cf ∷ [])
      (lt-ltb m.time (10 ^ 12) (timed-small m.code m.time (test 1)) also lt-ltb m.total.0 (10 ^ 8) (omega arith) also t.0 also b.0 also a.0 also all))
      also (timed-told ∙ test 1)
      also (ruled-told ∙ test 2)
      also t.1 also b.1 also a.1 also test 4 also all)

  legal-told : all_of tests ≡ legal six_codec m
  legal-told = same (all_of tests) (legal six_codec m) of-tests tests-of

  pub illegal : (i : ℕ) → get_or tests i true ≡ false → false ≡ legal six_codec m
  illegal i e = fails tests i e ∙ legal-told

  pub pairs-last : m.seq ≤ 99999999 → quote_timed m.code m.time ≡ true → code_right m.code ≡ true → m.total.0 ≤ 99999999
      → same_levels m ≡ true → pairs_right r m ≡ legal six_codec m
  pairs-last s t c q e = sym (λ i. le-leb m.seq 99999999 s i && (t i && (c i && (le-leb m.total.0 99999999 q i && (e i && pairs_right r m))))) ∙ legal-told
