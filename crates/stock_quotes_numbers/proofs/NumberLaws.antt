-- The numbers and bytes of a quote tell it: nothing is lost on the way to them and back.
use Prim.Native.Nat.{ℕ}
use mathlib.Core.Path.{◌≡◌, refl, sym, ap, ◌∙◌}
use mathlib.Core.List.{List, [], ◌∷◌, ◌++◌, append-nil}
use native.Mathlib.Omega.{arith}
use lib.ListN.{length}
use Rattle.amounts.specs.declared.Pair.{Pair}
use Rattle.stock_quotes.specs.Reveal.{levels_of}
use Rattle.stock_quotes.specs.Quotes.{flat, ShapedQuote, LevelsSaid}
use Rattle.stock_quotes.specs.declared.Levels.{Levels}
use Rattle.stock_quotes.specs.declared.Quote.{Quote}
use Rattle.stock_quotes.proofs.QuoteLaws.{of-six}
use Rattle.stock_quotes_numbers.specs.Numbers.{quote_bytes, quote_amounts, quote_from}

-- what holds of every list of five pairs holds of a list whose length is five
pub of-five : (P : List Pair → Type 0) → ((a b c d e : Pair) → P (a ∷ b ∷ c ∷ d ∷ e ∷ [])) → (l : List Pair) → length l ≡ 5 → P l
of-five P p (a ∷ b ∷ c ∷ d ∷ e ∷ []) h = p a b c d e
of-five P p [] h = absurd (omega arith)
of-five P p (a ∷ []) h = absurd (omega arith)
of-five P p (a ∷ b ∷ []) h = absurd (omega arith)
of-five P p (a ∷ b ∷ c ∷ []) h = absurd (omega arith)
of-five P p (a ∷ b ∷ c ∷ d ∷ []) h = absurd (omega arith)
of-five P p (a ∷ b ∷ c ∷ d ∷ e ∷ f ∷ l) h = absurd (omega arith)

-- a quote has 23 amounts
pub length-amounts : (q : Quote) → ShapedQuote q → length (quote_amounts q) ≡ 23
length-amounts q s =
    let long : List Pair → List Pair → Type 0 = λ b a. length (q.total.0 ∷ flat (q.trade ∷ (b ++ a))) ≡ 23 in
    of-five (λ b. long b q.asks)
    (λ b1 b2 b3 b4 b5. of-five (long (b1 ∷ b2 ∷ b3 ∷ b4 ∷ b5 ∷ [])) (λ a1 a2 a3 a4 a5. refl) q.asks s.asks-long)
    q.bids s.bids-long

-- a quote that says of its levels what its reveal byte says is that of its numbers and bytes, whatever stands behind the numbers
module _ (q : Quote) (s : ShapedQuote q) (rest : List ℕ) where
  abbrev with : List ℕ → Levels → List Pair → List Pair → Quote
  with code levels bids asks = record {
    seq = q.seq;
    code = code;
    time = q.time;
    reveal = q.reveal;
    limit = q.limit;
    status = q.status;
    total = q.total;
    trade = q.trade;
    levels = levels;
    bids = bids;
    asks = asks;
  }

  abbrev back : List ℕ → List Pair → List Pair → Quote
  back code bids asks = let w = with code q.levels bids asks in quote_from q.seq (quote_bytes w) q.time (quote_amounts w ++ rest)

  pub quote-before : levels_of q.reveal ≡ q.levels → quote_from q.seq (quote_bytes q) q.time (quote_amounts q ++ rest) ≡ q
  quote-before said =
      let l = levels_of q.reveal in
      of-six (λ c. back c q.bids q.asks ≡ with c l q.bids q.asks)
      (λ c1 c2 c3 c4 c5 c6. let c : List ℕ = c1 ∷ c2 ∷ c3 ∷ c4 ∷ c5 ∷ c6 ∷ [] in
      of-five (λ b. back c b q.asks ≡ with c l b q.asks)
      (λ b1 b2 b3 b4 b5. let b : List Pair = b1 ∷ b2 ∷ b3 ∷ b4 ∷ b5 ∷ [] in
      of-five (λ a. back c b a ≡ with c l b a) (λ a1 a2 a3 a4 a5. refl) q.asks s.asks-long)
      q.bids s.bids-long)
      q.code s.code-long
      ∙ ap (λ (x : Levels). with q.code x q.bids q.asks) said

-- so one that was read or can be written is that of its numbers and bytes
pub quote-back : (q : Quote) → ShapedQuote q → LevelsSaid q → quote_from q.seq (quote_bytes q) q.time (quote_amounts q) ≡ q
quote-back q s said = ap (quote_from q.seq (quote_bytes q) q.time) (sym (append-nil (quote_amounts q))) ∙ quote-before q s [] said.as-revealed
