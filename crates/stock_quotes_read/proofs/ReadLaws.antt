-- A quote's body read by its parts: what stands at each place, and what the packed fields hold.
use Rattle.std.specs.Prelude.{None, Some}
use Prim.Native.Nat.{ℕ, ◌+◌, ◌*◌, ◌^◌, ◌≤◌, ◌<◌}
use mathlib.Core.Path.{◌≡◌, refl, sym, ap, ap₂, ◌∙◌}
use mathlib.Core.Bool.{Bool, true, false, cond, ◌&&◌, and_assoc, and-true, and-false}
use mathlib.Core.List.{List, [], ◌∷◌}
use native.Mathlib.Omega.{arith}
use lib.ListN.{length, get_or, take, drop, length-drop}
use lib.Seq.{drop-drop, get_or-take, get_or-drop, length-take-le, take-take}
use lib.Dec.{eqb, lit<}
use Rattle.digits.specs.Packed.{good, good_field, value}
use Rattle.words.specs.Blocks.{block_at, block_of, no_block}
use Rattle.amounts.specs.Amounts.{as_quantity, quantity_at, quantity_of}
use Rattle.amounts.specs.declared.Pair.{Pair}
use Rattle.amounts.specs.declared.Quantity.{Quantity}
use Rattle.words.specs.declared.blocks.Block.{Block}
use Rattle.digits.proofs.PackedLaws.{value-parts}
use Rattle.digits.proofs.Places.{inside}
use Rattle.digits.proofs.Values.{even-field}
use Rattle.layout.specs.Cells.{good_cells, decode}
use Rattle.layout.specs.Checks.{first_fail}
use Rattle.answers.specs.Answers.{named}
use Rattle.stock_frame.specs.Format.{values_of, body_checks, body_place, body_answer, around}
use Rattle.answers.specs.declared.Frame.{Frame}
use Rattle.stock_quotes.specs.declared.QuoteReading.{QuoteReading}
use Rattle.stock_quotes.specs.declared.Reveal.{Reveal}
use Rattle.stock_quotes.specs.Reveal.{revealed, levels_right, pair_count}
use Rattle.stock_quotes.specs.Quotes.{pair_cells, six_cells, body_length, code_of, time_of, six, no_pair, no_quote, pairs_of, pairs_in, padded, quote_of, quote_reading}
use Rattle.stock_quotes.proofs.RevealLaws.{trades-lt, bids-few, asks-few}
use Rattle.stock_quotes.proofs.PairLaws.{length-dictated}
use Rattle.stock_quotes_read.specs.Steps.{Dictated, SidesOf, fixed_good, FixedOf}
use Rattle.stock_quotes_read.proofs.SideLaws.{good-append}

-- ---- the cells' places
module _ (b : List ℕ) where
  place-6 : drop 1 (drop 1 (drop 1 (drop 1 (drop 1 (drop 1 b))))) ≡ drop 6 b
  place-6 =
      ap (λ (l : List ℕ). drop 1 (drop 1 (drop 1 (drop 1 l)))) (drop-drop 1 1 b)
      ∙ ap (λ (l : List ℕ). drop 1 (drop 1 (drop 1 l))) (drop-drop 1 2 b)
      ∙ ap (λ (l : List ℕ). drop 1 (drop 1 l)) (drop-drop 1 3 b)
      ∙ ap (drop 1) (drop-drop 1 4 b) ∙ drop-drop 1 5 b

  place-15 : drop 1 (drop 1 (drop 1 (drop 6 (drop 1 (drop 1 (drop 1 (drop 1 (drop 1 (drop 1 b))))))))) ≡ drop 15 b
  place-15 =
      ap (λ (l : List ℕ). drop 1 (drop 1 (drop 1 (drop 6 l)))) place-6
      ∙ ap (λ (l : List ℕ). drop 1 (drop 1 (drop 1 l))) (drop-drop 6 6 b)
      ∙ ap (λ (l : List ℕ). drop 1 (drop 1 l)) (drop-drop 1 12 b)
      ∙ ap (drop 1) (drop-drop 1 13 b) ∙ drop-drop 1 14 b

  place-19 : drop 4 (drop 1 (drop 1 (drop 1 (drop 6 (drop 1 (drop 1 (drop 1 (drop 1 (drop 1 (drop 1 b)))))))))) ≡ drop 19 b
  place-19 = ap (drop 4) place-15 ∙ drop-drop 4 15 b

-- ---- what a body's cells hold, by places
module _ (n : ℕ) (b : List ℕ) where
  pub good-six : good_cells (six_cells n) b ≡ good_field 12 (take 6 (drop 6 b)) && (good_field 8 (take 4 (drop 15 b)) && good_cells (pair_cells n) (drop 19 b))
  good-six = λ i. good_field 12 (take 6 (place-6 b i)) && (good_field 8 (take 4 (place-15 b i)) && good_cells (pair_cells n) (place-19 b i))

  pub code-six : 6 ≤ length b → code_of (decode (six_cells n) b) ≡ get_or b 0 0 ∷ get_or b 1 0 ∷ get_or b 2 0 ∷ get_or b 3 0 ∷ get_or b 4 0 ∷ get_or b 5 0 ∷ []
  code-six h = let one : 0 < 1 = lit< tt in simp (get_or-take, get_or-drop)

  pub time-six : time_of (decode (six_cells n) b) ≡ value (take 6 (drop 6 b))
  time-six = ap (λ (l : List ℕ). value (take 6 l)) (place-6 b)

  pub limit-six : get_or (decode (six_cells n) b) 8 0 ≡ get_or b 13 0
  limit-six = let one : 0 < 1 = lit< tt in simp (get_or-take, get_or-drop)

  pub status-six : get_or (decode (six_cells n) b) 9 0 ≡ get_or b 14 0
  status-six = let one : 0 < 1 = lit< tt in simp (get_or-take, get_or-drop)

  pub total-six : get_or (decode (six_cells n) b) 10 0 ≡ value (take 4 (drop 15 b))
  total-six = ap (λ (l : List ℕ). value (take 4 l)) (place-15 b)

  pub pairs-six : pairs_of (drop 11 (decode (six_cells n) b)) ≡ pairs_in n (drop 19 b)
  pairs-six = ap (pairs_in n) (place-19 b)

-- ---- the reading from the number of the first check that fails
module _ (seq : ℕ) (b : List ℕ) where
  abbrev frame : Frame
  frame = record { format = 6; seq = seq; length = length b + 13 }

  abbrev reading_of : ℕ → QuoteReading
  reading_of k = record { answer = named k frame (body_place six b k); quote = cond (eqb k 0) (quote_of seq (values_of six b)) no_quote }

  pub reading-by : (k : ℕ) → first_fail (body_checks six b) ≡ k → reading_of k ≡ quote_reading seq b
  unfolding quote_reading body_answer
  reading-by k e =
      let w : length b + 13 ≡ around + length b = omega arith in
      ap (λ (l : ℕ). record { answer = named k (record { format = 6; seq = seq; length = l }) (body_place six b k); quote = cond (eqb k 0) (quote_of seq (values_of six b)) no_quote }) w
      ∙ ap (λ (x : ℕ). record { answer = named x (record { format = 6; seq = seq; length = around + length b }) (body_place six b x); quote = cond (eqb x 0) (quote_of seq (values_of six b)) no_quote }) (sym e)

-- ---- the packed fields, one after the other
pub dictated : (b : List ℕ) (r : Reveal) → r ≡ revealed (get_or b 12 0) → levels_right r ≡ true → length b ≡ body_length (get_or b 12 0) → Dictated b r
dictated b r shown right as_long = record {
  shown = shown;
  right = right;
  few-trades = omega (arith, trades-lt r (get_or b 12 0) shown);
  few-bids = bids-few r right;
  few-asks = asks-few r right;
  as_long = as_long ∙ sym (length-dictated r (get_or b 12 0) shown);
}

module _ (b : List ℕ) (long : 19 ≤ length b) where
  time-long : length (take 6 (drop 6 b)) ≡ 6
  time-long = length-take-le 6 (drop 6 b) (rw length-drop (omega arith))

  good-fixed : good_field 12 (take 6 (drop 6 b)) && good_field 8 (take 4 (drop 15 b)) ≡ fixed_good b
  good-fixed = ap (λ (t : Bool). t && good_field 8 (take 4 (drop 15 b))) (even-field 12 (take 6 (drop 6 b)) (ap (λ (n : ℕ). 100 ^ n) (sym time-long)))

  time-halves : {h : Block} → h ≡ block_at 6 2 (take 6 (drop 6 b)) 0 → h ≡ block_of 2 (take 6 (drop 6 b))
  time-halves e =
      e ∙ inside 6 0 (take 6 (drop 6 b)) (block_of 2 (take 6 (take 6 (drop 6 b)))) no_block (omega (arith, time-long))
      ∙ ap (block_of 2) (take-take 6 6 (drop 6 b) (omega arith))

  time-flag : {h : Block} → h ≡ block_at 6 2 (take 6 (drop 6 b)) 0 → h.good ≡ good (take 6 (drop 6 b))
  time-flag e = ap (λ (x : Block). x.good) (time-halves e)

  total-place : quantity_at (take 4 (drop 15 b)) 0 ≡ quantity_of (take 4 (drop 15 b))
  total-place =
      let long : length (take 4 (drop 15 b)) ≡ 4 = length-take-le 4 (drop 15 b) (rw length-drop (omega arith)) in
      inside 4 0 (take 4 (drop 15 b)) (quantity_of (take 4 (take 4 (drop 15 b)))) None (omega arith)
      ∙ ap quantity_of (take-take 4 4 (drop 15 b) (omega arith))

  total-good : (q : Quantity) → quantity_at (take 4 (drop 15 b)) 0 ≡ Some q → (good_field 8 (take 4 (drop 15 b)) ≡ true) × (q ≡ as_quantity (value (take 4 (drop 15 b))))
  total-good q e = go (good_field 8 (take 4 (drop 15 b))) (sym total-place ∙ e)
    where
      go : (t : Bool) → cond t (Some (as_quantity (value (take 4 (drop 15 b))))) None ≡ Some q
          → (t ≡ true) × (q ≡ as_quantity (value (take 4 (drop 15 b))))
      go true p = (refl, cc)
      go false p = (cc, cc)

  total-bad : quantity_at (take 4 (drop 15 b)) 0 ≡ None → good_field 8 (take 4 (drop 15 b)) ≡ false
  total-bad e = go (good_field 8 (take 4 (drop 15 b))) (sym total-place ∙ e)
    where
      go : (t : Bool) → cond t (Some (as_quantity (value (take 4 (drop 15 b))))) None ≡ None → t ≡ false
      go true p = cc
      go false p = refl

  time-said : {h : Block} → h ≡ block_at 6 2 (take 6 (drop 6 b)) 0 → h.first * 100000000 + h.last ≡ value (take 6 (drop 6 b))
  time-said {h} e =
      let w = take 6 (drop 6 b) in
      let four : length (drop 2 w) ≡ 4 = rw length-drop (omega (arith, time-long)) in
      ap₂ (λ (x y : ℕ). x * 100000000 + y) (ap (λ (x : Block). x.first) (time-halves e)) (ap (λ (x : Block). x.last) (time-halves e))
      ∙ ap (λ (n : ℕ). value (take 2 w) * 100 ^ n + value (drop 2 w)) (sym four) ∙ sym (value-parts 2 w)

  -- what the two fields hold where the total's digits are good, and where not
  pub fixed-read : {h : Block} (q : Quantity) → h ≡ block_at 6 2 (take 6 (drop 6 b)) 0 → quantity_at (take 4 (drop 15 b)) 0 ≡ Some q
      → (h.good ≡ fixed_good b) × (h.good ≡ true → FixedOf b h.first h.last q)
  fixed-read {h} q e f =
      let t = total-good q f in (
        time-flag e ∙ sym (and-true (good (take 6 (drop 6 b)))) ∙ ap (λ (x : Bool). good (take 6 (drop 6 b)) && x) (sym t.0),
        λ g. record { time-is = time-said e; total-is = t.1 },
      )

  pub fixed-bad : quantity_at (take 4 (drop 15 b)) 0 ≡ None → fixed_good b ≡ false
  fixed-bad f = ap (λ (x : Bool). good (take 6 (drop 6 b)) && x) (total-bad f) ∙ and-false (good (take 6 (drop 6 b)))

module _ (b : List ℕ) (r : Reveal) (d : Dictated b r) where
  -- ---- the digits of each part
  abbrev good_pairs : Bool
  good_pairs = good_cells (pair_cells (pair_count r)) (drop 19 b)

  abbrev good_trades : Bool
  good_trades = good_cells (pair_cells r.trades) (drop 19 b)

  abbrev good_bids : Bool
  good_bids = good_cells (pair_cells r.bids) (drop (19 + 9 * r.trades) b)

  abbrev good_asks : Bool
  good_asks = good_cells (pair_cells r.asks) (drop (19 + 9 * r.trades + 9 * r.bids) b)

  good-sides : good_trades && (good_bids && good_asks) ≡ good_pairs
  good-sides =
      let bids-at : drop (9 * r.trades) (drop 19 b) ≡ drop (19 + 9 * r.trades) b = drop-drop (9 * r.trades) 19 b in
      let asks_at : drop (9 * r.bids) (drop (9 * r.trades) (drop 19 b)) ≡ drop (19 + 9 * r.trades + 9 * r.bids) b =
      ap (drop (9 * r.bids)) bids-at ∙ drop-drop (9 * r.bids) (19 + 9 * r.trades) b in
      sym (good-append r.trades (r.bids + r.asks) (drop 19 b)
      ∙ ap (λ (t : Bool). good_trades && t)
      (good-append r.bids r.asks (drop (9 * r.trades) (drop 19 b))
      ∙ ap₂ (λ (x y : List ℕ). good_cells (pair_cells r.bids) x && good_cells (pair_cells r.asks) y) bids-at asks_at))

  -- by those of the three sides
  pub sides-say : (x y z : Bool) → good_trades ≡ x → good_bids ≡ y → good_asks ≡ z → good_pairs ≡ x && (y && z)
  sides-say x y z t u v = sym good-sides ∙ ap₂ ◌&&◌ t (ap₂ ◌&&◌ u v)

  good-parts : fixed_good b && good_pairs ≡ good_cells (six_cells (pair_count r)) b
  good-parts =
      ap (λ (x : Bool). x && good_pairs) (sym (good-fixed b (omega (arith, d.as_long))))
      ∙ and_assoc (good_field 12 (take 6 (drop 6 b))) (good_field 8 (take 4 (drop 15 b))) good_pairs
      ∙ sym (good-six (pair_count r) b)

  pub bad-fixed : fixed_good b ≡ false → good_cells (six_cells (pair_count r)) b ≡ false
  bad-fixed e = sym good-parts ∙ ap (λ (x : Bool). x && good_pairs) e

  pub pairs-say : fixed_good b ≡ true → (x : Bool) → good_pairs ≡ x → good_cells (six_cells (pair_count r)) b ≡ x
  pairs-say e x p = sym good-parts ∙ ap₂ ◌&&◌ e p

  -- ---- the sides
  -- the first of a trade's pairs
  first-padded : (ps : List Pair) → get_or (padded ps) 0 no_pair ≡ get_or ps 0 no_pair
  first-padded [] = refl
  first-padded (p ∷ ps) = refl

  pub sides-told : (ts bs cs : List Pair) → ts ≡ padded (pairs_in r.trades (drop 19 b))
      → bs ≡ padded (pairs_in r.bids (drop (19 + 9 * r.trades) b))
      → cs ≡ padded (pairs_in r.asks (drop (19 + 9 * r.trades + 9 * r.bids) b))
      → SidesOf b r (get_or ts 0 no_pair) bs cs
  sides-told ts bs cs t u v = record {
    trade-is = ap (λ (x : List Pair). get_or x 0 no_pair) t ∙ first-padded (pairs_in r.trades (drop 19 b));
    bids-are = u;
    asks-are = v;
  }
