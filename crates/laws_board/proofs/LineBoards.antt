-- The board over a line is the fold over the quotes that its walk accepts.
use Prim.Native.Nat.{ℕ}
use mathlib.Core.Path.{◌≡◌, refl, sym, ap, ◌∙◌, subst}
use mathlib.Core.Bool.{Bool, true, false, cond}
use mathlib.Core.List.{List, [], ◌∷◌}
use lib.ListN.{drop}
use lib.Dec.{eqb}
use borrow.Author.Tests.{eqb-true}
use Rattle.walk.specs.Walk.{Move, walk, Each}
use Rattle.answers.specs.declared.Frame.{Frame}
use Rattle.answers.specs.declared.Answer.{Answer}
use Rattle.answers.specs.declared.Answer.TheVariants.{Accepted, NoFrame, Refused}
use Rattle.stock_frame.specs.Codec.{legal}
use Rattle.stock_quotes.specs.Quotes.{six_codec, no_quote}
use Rattle.stock_quotes.specs.declared.Quote.{Quote}
use Rattle.stock_frame.proofs.CodecLaws.{Reads}
use Rattle.stock_quotes.proofs.QuoteLaws.{written-read-quote}
use Rattle.stock_reading.specs.Reading.{answer_of, message_by}
use Rattle.stock_reading.proofs.Trips.{trips-six}
use Rattle.stock_notices.specs.Notices.{five_codec, no_notice}
use Rattle.stock_prices.specs.Prices.{twelve_codec, no_prices}
use Rattle.stock_halts.specs.Halts.{nineteen_codec, no_halt}
use Rattle.stock_lines.specs.Lines.{Message, none, notice, quote, prices, halt, message_in, Saying, sayings}
use Rattle.stock_lines.proofs.LineTheorems.{line-says}
use Rattle.stock_board.specs.Board.{clear_board}
use Rattle.stock_board.specs.declared.Row.{Row}
use Rattle.laws_board.specs.History.{AllOf, board_of, after}
use Rattle.laws_board.specs.Kept.{Held, Bytes}
use Rattle.laws_board.specs.Lines.{moved_by, board_over, with_message, quotes_in, quotes_of, LineBoard}
use Rattle.laws_board.proofs.Told.{series-tells}
use Rattle.laws_board.proofs.KeptSeries.{flat-series}
use Rattle.laws_board.proofs.HeldLaws.{bytes_drop, read_held}

-- ---- move by move
moved-after : (w : Message) (ms : List Quote) → moved_by (after ms) w ≡ after (with_message w ms)
moved-after none ms = refl
moved-after (notice m) ms = refl
moved-after (quote m) ms = refl
moved-after (prices m) ms = refl
moved-after (halt m) ms = refl

over-after : (vs : List (Move Saying)) (ms : List Quote) → board_over (after ms) vs ≡ after (quotes_in vs ms)
over-after [] ms = refl
over-after (v ∷ vs) ms = ap (λ (l : List Row). board_over l vs) (moved-after v.said.message ms) ∙ over-after vs (with_message v.said.message ms)

line-board : (closed : Bool) (line : List ℕ) → board_over clear_board (walk sayings closed line) ≡ board_of (quotes_of closed line)
line-board closed line = over-after (walk sayings closed line) [] ∙ (series-tells (quotes_of closed line)).board

-- ---- what holds of every quote that is read at a place of a line holds of all that its walk accepts
module _ (P : Quote → Type 0) where
  abbrev Of : Message → Type 0
  Of none = Unit {0}
  Of (notice m) = Unit {0}
  Of (quote m) = P m
  Of (prices m) = Unit {0}
  Of (halt m) = Unit {0}

  message-of : (t : List ℕ) → ((m : Quote) → Reads six_codec t m → P m) → Of (message_in (answer_of t) t)
  message-of t h = go (answer_of t) refl
    where
      others : (a b : Bool) → Of (cond a (prices (message_by twelve_codec no_prices t)) (cond b (halt (message_by nineteen_codec no_halt t)) (notice (message_by five_codec no_notice t))))
      others true b = tt
      others false true = tt
      others false false = tt

      quotes : (f : Frame) → answer_of t ≡ Accepted f → (a : Bool) → eqb f.format 6 ≡ a → Of (cond a (quote (message_by six_codec no_quote t))
          (cond (eqb f.format 12) (prices (message_by twelve_codec no_prices t)) (cond (eqb f.format 19) (halt (message_by nineteen_codec no_halt t)) (notice (message_by five_codec no_notice t)))))
      quotes f e true p = h (message_by six_codec no_quote t) (trips-six.means t f e (eqb-true f.format 6 p))
      quotes f e false p = others (eqb f.format 12) (eqb f.format 19)

      go : (a : Answer) → answer_of t ≡ a → Of (message_in a t)
      go (Accepted f) e = quotes f e (eqb f.format 6) refl
      go (NoFrame n p) e = tt
      go (Refused n l p) e = tt

  module _ (line : List ℕ) (read : (at : ℕ) (m : Quote) → Reads six_codec (drop at line) m → P m) where
    all_in : (vs : List (Move Saying)) (ms : List Quote) → Each (λ (m : Move Saying). m.said ≡ sayings.says (drop m.at line)) vs → AllOf P ms → AllOf P (quotes_in vs ms)
    all_in [] ms h a = a
    all_in (v ∷ vs) ms h a = all_in vs (with_message v.said.message ms) h.1 (with v.said.message (subst Of (sym (ap (λ (s : Saying). s.message) h.0)) (message-of (drop v.at line) (read v.at))))
      where
        with : (w : Message) → Of w → AllOf P (with_message w ms)
        with none p = a
        with (notice m) p = a
        with (quote m) p = (p, a)
        with (prices m) p = a
        with (halt m) p = a

    all-accepted : (closed : Bool) → AllOf P (quotes_of closed line)
    all-accepted closed = all_in (walk sayings closed line) [] (line-says.in_place closed line) tt

-- ---- a quote that was read could be written; off a line of bytes it is as memory holds it
all-legal : (closed : Bool) (line : List ℕ) → AllOf (λ m. legal six_codec m ≡ true) (quotes_of closed line)
all-legal closed line = all-accepted (λ m. legal six_codec m ≡ true) line (λ at m rd. (written-read-quote (drop at line) m rd).0) closed

all_held : (closed : Bool) (line : List ℕ) → Bytes line → AllOf Held (quotes_of closed line)
all_held closed line h = all-accepted Held line (λ at m rd. read_held (drop at line) (bytes_drop at line h) m rd) closed

-- the theorem
pub board-over-line : (closed : Bool) (line : List ℕ) → LineBoard closed line
board-over-line closed line = record {
  board = line-board closed line;
  legal-all = all-legal closed line;
  held_all = all_held closed line;
  kept = λ h. (flat-series (quotes_of closed line) (all_held closed line h)).rows ∙ sym (over-after (walk sayings closed line) []);
}
