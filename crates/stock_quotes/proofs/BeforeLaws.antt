-- What bit 0 of the reveal byte did not change: everything, but for the byte beside a level.
use Rattle.std.specs.Prelude.{None}
use Prim.Native.Nat.{ℕ, ◌+◌, ◌%◌, ◌^◌}
use mathlib.Core.Path.{◌≡◌, refl, sym, ap, ◌∙◌}
use mathlib.Core.Bool.{Bool, true, false, cond, ◌&&◌, and-true, and-false}
use mathlib.Core.List.{List, [], ◌∷◌}
use lib.ListN.{length, get_or, drop}
use lib.Dec.{eqb, leb, ltb}
use borrow.Author.Tests.{eq-eqb}
use Rattle.answers.specs.Answers.{named}
use Rattle.answers.specs.declared.Answer.{Answer}
use Rattle.answers.specs.declared.Answer.TheVariants.{Refused}
use Rattle.stock_frame.specs.Format.{around, ranged, values_of, body_checks, body_place, body_answer}
use Rattle.stock_frame.specs.Codec.{legal, frame_of}
use Rattle.layout.specs.Cells.{size, fits}
use Rattle.layout.specs.Checks.{first_fail}
use Rattle.stock_quotes.specs.declared.Levels.{Levels}
use Rattle.stock_quotes.specs.declared.Levels.TheVariants.{Shown}
use Rattle.stock_quotes.specs.declared.Quote.{Quote}
use Rattle.stock_quotes.specs.declared.Reveal.{Reveal}
use Rattle.stock_quotes.specs.Reveal.{levels_of, levels_bit, revealed, side_room, count_right, levels_right, pair_count}
use Rattle.stock_quotes.specs.Quotes.{reveal_of, reveal_place, six_levels, six_timed, six_ruled, six, flat, used_pairs, quote_values, zero_pairs, same_levels, tidy_quote, six_codec, ShapedQuote}
use Rattle.stock_quotes.specs.Before.{levels_before, six_before, tidy_before, codec_before, as_bit0, AsBefore}
use Rattle.stock_quotes.proofs.RevealLaws.{of-bit}
use Rattle.stock_quotes.proofs.QuoteLaws.{reveal-read, reveal-parts}

-- ---- check 10, by what bit 0 says of the levels that are counted
right-before : (r : Reveal) → count_right r.levels (r.bids + r.asks) ≡ true → levels_right r ≡ levels_before r
unfolding levels_right
right-before r e = ap (λ (t : Bool). leb r.bids side_room && (leb r.asks side_room && t)) e ∙ ap (λ (t : Bool). leb r.bids side_room && t) (and-true (leb r.asks side_room))

right-hidden : (r : Reveal) → count_right r.levels (r.bids + r.asks) ≡ false → levels_right r ≡ false
unfolding levels_right
right-hidden r e = ap (λ (t : Bool). leb r.bids side_room && (leb r.asks side_room && t)) e ∙ ap (λ (t : Bool). leb r.bids side_room && t) (and-false (leb r.asks side_room)) ∙ and-false (leb r.bids side_room)

clear-shown : (byte : ℕ) → byte % 2 ≡ 0 → levels_of byte ≡ Shown
clear-shown byte e = of-bit Shown byte (sym e)

clear-as : (byte : ℕ) → byte % 2 ≡ 0 → as_bit0 byte ≡ true
clear-as byte e = ap (λ (l : Levels). count_right l ((revealed byte).bids + (revealed byte).asks)) (clear-shown byte e)

-- ---- a body
module _ (seq : ℕ) (b : List ℕ) where
  read_as : reveal_of (values_of six b) ≡ get_or b reveal_place 0
  read_as = reveal-read (pair_count (revealed (get_or b reveal_place 0))) b

  -- the answer by check 10's test
  abbrev number_by : Bool → ℕ
  number_by t = cond (ranged six (length b)) (cond t (first_fail (drop 2 (body_checks six b))) 10) 9

  abbrev by : Bool → Answer
  by t = named (number_by t) (record { format = 6; seq = seq; length = around + length b }) (body_place six b (number_by t))

  reading-as : as_bit0 (get_or b reveal_place 0) ≡ true → body_answer six seq b ≡ body_answer six_before seq b
  unfolding body_answer
  reading-as e =
      ap by (right-before (revealed (reveal_of (values_of six b))) (ap as_bit0 read_as ∙ e))

  hidden-as : as_bit0 (get_or b reveal_place 0) ≡ false → ranged six (length b) ≡ true → body_answer six seq b ≡ Refused 10 (around + length b) None
  unfolding body_answer
  hidden-as e h =
      ap by (right-hidden (revealed (reveal_of (values_of six b))) (ap as_bit0 read_as ∙ e))
      ∙ ap (λ (t : Bool). named (cond t 10 9) (record { format = 6; seq = seq; length = around + length b }) (body_place six b (cond t 10 9))) h

-- ---- a message that shows its levels, with bit 0 clear
module _ (m : Quote) (s : ShapedQuote m) (shown : m.levels ≡ Shown) (clear : m.reveal % 2 ≡ 0) where
  abbrev r : Reveal
  r = revealed m.reveal

  -- whether it can be written, by check 10's test and by what is asked of unused places
  abbrev legal-by : Bool → Bool → Bool
  legal-by l t =
      ltb m.seq (10 ^ 8)
      && (ranged six (size (six_codec.cells m)) && (l && (fits (six_codec.cells m) (quote_values m) && (six_timed (quote_values m) && (six_ruled (quote_values m) && t)))))

  levels-as : six_levels (quote_values m) ≡ levels_before (revealed (reveal_of (quote_values m)))
  levels-as =
      right-before (revealed (reveal_of (quote_values m)))
      (ap as_bit0 (reveal-parts m.time m.reveal (m.limit ∷ m.status ∷ m.total.0 ∷ flat (used_pairs m)) m.code s.code-long) ∙ clear-as m.reveal clear)

  said-as : same_levels m ≡ true
  said-as = ap (λ (l : Levels). eqb (levels_bit l) (m.reveal % 2)) shown ∙ eq-eqb 0 (m.reveal % 2) (sym clear)

  tidy-as : tidy_quote m ≡ tidy_before m
  tidy-as =
      ap (λ (t : Bool). zero_pairs (drop r.trades (m.trade ∷ [])) && (zero_pairs (drop r.bids m.bids) && t))
      (ap (λ (t : Bool). zero_pairs (drop r.asks m.asks) && t) said-as ∙ and-true (zero_pairs (drop r.asks m.asks)))

  writing-as : (legal six_codec m ≡ legal codec_before m) × (frame_of six_codec m ≡ frame_of codec_before m)
  writing-as =
      (ap (λ (t : Bool). legal-by t (tidy_quote m)) levels-as ∙ ap (legal-by (levels_before (revealed (reveal_of (quote_values m))))) tidy-as, refl)

pub as_before : AsBefore
as_before = record {
  reading = reading-as;
  levels-hidden = hidden-as;
  clear-reading = λ seq b e. reading-as seq b (clear-as (get_or b reveal_place 0) e);
  clear-message = λ seq vs e. clear-shown (reveal_of vs) e;
  clear-writing = writing-as;
}
