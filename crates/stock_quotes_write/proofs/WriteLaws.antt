-- Writing a quote: the cells of the body put one behind another.
use Rattle.std.specs.Prelude.{Err, Result}
use Prim.Native.Nat.{ℕ, zero, suc, ◌+◌, ◌*◌, ◌^◌, ◌≤◌, ◌<◌}
use mathlib.Core.Path.{◌≡◌, refl, sym, ap, ◌∙◌}
use mathlib.Core.Bool.{true}
use mathlib.Core.List.{List, [], ◌∷◌, ◌++◌, append_assoc}
use native.Mathlib.Omega.{arith}
use lib.ListN.{length, get_or, take, replicate, length-append}
use lib.Seq.{length-take-le, sets, length-sets}
use borrow.Author.Tests.{leb-true}
use Rattle.digits.specs.Packed.{packed}
use Rattle.digits.specs.Fields.{put_at}
use Rattle.amounts.specs.declared.Pair.{Pair}
use Rattle.digits.proofs.Bools.{and_left}
use Rattle.digits.proofs.TestLaws.{holds}
use Rattle.digits.proofs.PackedLaws.{length-packed}
use Rattle.layout.specs.Cells.{Cell, raw, digits, fits, encode}
use Rattle.stock_frame.specs.Format.{around}
use Rattle.stock_frame.specs.Codec.{legal, frame_of}
use Rattle.stock_frame.specs.Writing.{write_answer, written_over, close_answer, closed_over}
use Rattle.layout.specs.Bytes.{bytes_over}
use Rattle.layout.proofs.PutLaws.{put_next, put-digits, bytes-in}
use Rattle.stock_frame.proofs.MessageLaws.{message-short, message-closed}
use Rattle.layout.proofs.RawLaws.{encode-raws}
use Rattle.stock_quotes.specs.declared.Quote.{Quote}
use Rattle.stock_quotes.specs.declared.Reveal.{Reveal}
use Rattle.stock_quotes.specs.Reveal.{revealed, levels_right, pair_count}
use Rattle.stock_quotes.specs.Quotes.{pair_cells, six_cells, body_length, flat, used_pairs, quote_values, six_codec, ShapedQuote}
use Rattle.stock_quotes.proofs.RevealLaws.{trades-lt, bids-few, asks-few}
use Rattle.stock_quotes.proofs.TimeLaws.{timed-small}
use Rattle.stock_quotes.proofs.PairLaws.{length-trade, length-dictated}
use Rattle.stock_quotes.proofs.QuoteLaws.{quotes-lawful}
use Rattle.stock_quotes_write.specs.Steps.{pair_tests, fixed_bytes, Ready}
use Rattle.stock_quotes_write.proofs.PartLaws.{encode-more, length_pairs}
use Rattle.stock_quotes_write.proofs.LegalLaws.{tests, tests-of, each-pair, trade-is, bids-is, asks-is}
use Rattle.answers.specs.declared.WriteError.{WriteError}
use Rattle.answers.specs.declared.WriteError.TheVariants.{NoRoom}

-- a trade's one pair is the first of any number of copies
copies : (n k : ℕ) (p : Pair) → n ≤ 1 → take n (replicate (suc k) p) ≡ take n (p ∷ [])
copies zero k p h = refl
copies (suc zero) k p h = refl
copies (suc (suc n)) k p h = absurd (omega arith)

module _ (m : Quote) (shaped : ShapedQuote m) where
  -- ---- the body is what stands before the pairs, and the pairs
  length-fixed : length (fixed_bytes m) ≡ 19
  unfolding fixed_bytes
  length-fixed =
      length-append m.code (packed 6 m.time ++ (m.reveal ∷ m.limit ∷ m.status ∷ packed 4 m.total.0))
      ∙ omega (arith, shaped.code-long)

  encoded : encode (six_cells (pair_count (revealed m.reveal))) (quote_values m) ≡ fixed_bytes m ++ encode (pair_cells (pair_count (revealed m.reveal))) (flat (used_pairs m))
  unfolding fixed_bytes
  encoded =
      let cs : List Cell = digits 12 ∷ raw ∷ raw ∷ raw ∷ digits 8 ∷ pair_cells (pair_count (revealed m.reveal)) in
      let x = m.reveal ∷ m.limit ∷ m.status ∷ packed 4 m.total.0 in
      let e = encode (pair_cells (pair_count (revealed m.reveal))) (flat (used_pairs m)) in
      ap (λ (n : ℕ). encode (replicate n raw ++ cs) (quote_values m)) (sym shaped.code-long)
      ∙ encode-raws m.code cs (m.time ∷ m.reveal ∷ m.limit ∷ m.status ∷ m.total.0 ∷ flat (used_pairs m))
      ∙ sym (append_assoc m.code (packed 6 m.time ++ x) e)

  -- both parts put one behind the other
  body-put : (buf b₁ b₂ : List ℕ) → b₁ ≡ sets buf 10 (fixed_bytes m) → b₂ ≡ sets b₁ 29 (encode (pair_cells (pair_count (revealed m.reveal))) (flat (used_pairs m)))
      → b₂ ≡ sets buf 10 (encode (six_cells (pair_count (revealed m.reveal))) (quote_values m))
  body-put buf b₁ b₂ p₁ p₂ =
      p₂ ∙ put_next (fixed_bytes m) buf b₁ 10 29 p₁ (omega (arith, length-fixed)) (encode (pair_cells (pair_count (revealed m.reveal))) (flat (used_pairs m)))
      ∙ ap (sets buf 10) (sym encoded)

  module _ (l : legal six_codec m ≡ true) where
    -- what the code tests, and of the pairs each part
    test : (i : ℕ) → get_or (tests m shaped) i true ≡ true
    test = holds (tests m shaped) (tests-of m shaped l)

    part : (i : ℕ) → get_or (pair_tests (revealed m.reveal) m) i true ≡ true
    part = each-pair (revealed m.reveal) m (test 5)

    -- ---- the whole frame: n is the length that the code finds
    module _ (buf : List ℕ) (n : ℕ) (whole : n ≡ around + body_length m.reveal) where
      pub quote-short : length buf < n
          → (Err NoRoom ≡ write_answer (legal six_codec m) (frame_of six_codec m) buf) × (buf ≡ written_over (legal six_codec m) (frame_of six_codec m) buf)
      quote-short h = message-short six_codec ShapedQuote quotes-lawful m shaped l buf (omega (arith, whole))

      pub quote-closed : (b₁ b₂ u : List ℕ) (answer : Result ℕ WriteError) → n ≤ length buf
          → b₁ ≡ sets buf 10 (fixed_bytes m) → b₂ ≡ sets b₁ 29 (encode (pair_cells (pair_count (revealed m.reveal))) (flat (used_pairs m)))
          → answer ≡ close_answer 6 4 m.seq n b₂ → u ≡ closed_over 6 4 m.seq n b₂
          → (answer ≡ write_answer (legal six_codec m) (frame_of six_codec m) buf) × (u ≡ written_over (legal six_codec m) (frame_of six_codec m) buf)
      quote-closed b₁ b₂ u answer h p₁ p₂ p q =
          message-closed six_codec ShapedQuote quotes-lawful m shaped l buf b₂ u answer (omega (arith, whole)) (body-put buf b₁ b₂ p₁ p₂)
          (p ∙ ap (λ (k : ℕ). close_answer 6 4 m.seq k b₂) whole) (q ∙ ap (λ (k : ℕ). closed_over 6 4 m.seq k b₂) whole)

    -- ---- what stands before the pairs
    pub time-small : m.time < 10 ^ 12
    time-small = timed-small m.code m.time (test 1)

    pub total-small : m.total.0 < 10 ^ 8
    total-small = omega (arith, leb-true m.total.0 99999999 (test 3))

    pub fixed-put : (buf b₁ b₂ b₃ b₄ : List ℕ) → 29 ≤ length buf
        → b₁ ≡ bytes_over m.code buf 10 → b₂ ≡ put_at m.time 6 b₁ 16 → b₃ ≡ bytes_over (m.reveal ∷ m.limit ∷ m.status ∷ []) b₂ 22
        → b₄ ≡ put_at m.total.0 4 b₃ 25 → b₄ ≡ sets buf 10 (fixed_bytes m)
    unfolding fixed_bytes
    fixed-put buf b₁ b₂ b₃ b₄ room q₁ q₂ q₃ q₄ =
        let code = m.code in
        let time = packed 6 m.time in
        let marks : List ℕ = m.reveal ∷ m.limit ∷ m.status ∷ [] in
        let total = packed 4 m.total.0 in
        let n : length code ≡ 6 = shaped.code-long in
        let t : m.time < 10 ^ 12 = time-small in
        let p₁ : b₁ ≡ sets buf 10 code = q₁ ∙ sym (bytes-in code buf 10 (omega arith)) in
        let p₂ : b₂ ≡ sets buf 10 (code ++ time) = q₂ ∙ put-digits code buf b₁ 10 16 p₁ (omega arith) 12 m.time (omega arith) (omega arith) t in
        let n₂ : length (code ++ time) ≡ 12 = length-append code time ∙ omega (arith, length-packed 6 m.time) in
        let r₂ : length b₂ ≡ length buf = ap length p₂ ∙ length-sets buf 10 (code ++ time) in
        let p₃ : b₃ ≡ sets buf 10 ((code ++ time) ++ marks) =
        q₃ ∙ sym (bytes-in marks b₂ 22 (omega arith)) ∙ put_next (code ++ time) buf b₂ 10 22 p₂ (omega arith) marks in
        let n₃ : length ((code ++ time) ++ marks) ≡ 15 = length-append (code ++ time) marks ∙ omega arith in
        q₄ ∙ put-digits ((code ++ time) ++ marks) buf b₃ 10 25 p₃ (omega arith) 8 m.total.0 (omega arith) (omega arith) total-small
        ∙ ap (sets buf 10) (append_assoc (code ++ time) marks total ∙ append_assoc code time (marks ++ total))

    -- ---- what the pairs' step asks; r is what the code finds in the reveal byte
    pub ready : (r : Reveal) (n : ℕ) → r ≡ revealed m.reveal → 10 + body_length m.reveal ≤ n → Ready m r n
    ready r n shown room =
        let one = trades-lt r m.reveal shown in
        let right : levels_right r ≡ true = ap levels_right shown ∙ part 0 in
        record {
          shown = shown;
          few-trades = omega arith;
          few-bids = bids-few r right;
          few-asks = asks-few r right;
          trade-fits =
              ap (λ (x : List Pair). fits (pair_cells r.trades) (flat x)) (copies r.trades 4 m.trade (omega arith))
              ∙ ap (λ (x : Reveal). fits (pair_cells x.trades) (flat (take x.trades (m.trade ∷ [])))) shown
              ∙ and_left _ _ (sym (trade-is m shaped (part 0)) ∙ part 1);
          bids-fit = ap (λ (x : Reveal). fits (pair_cells x.bids) (flat (take x.bids m.bids))) shown ∙ and_left _ _ (sym (bids-is m shaped (part 0)) ∙ part 2);
          asks-fit = ap (λ (x : Reveal). fits (pair_cells x.asks) (flat (take x.asks m.asks))) shown ∙ and_left _ _ (sym (asks-is m shaped (part 0)) ∙ part 3);
          room = omega (arith, length-dictated r m.reveal shown);
        }

  -- ---- the pairs
  module _ (r : Reveal) (n : ℕ) (d : Ready m r n) where
    abbrev ts : List Pair
    ts = take r.trades (m.trade ∷ [])

    abbrev bs : List Pair
    bs = take r.bids m.bids

    abbrev cs : List Pair
    cs = take r.asks m.asks

    one : r.trades < 2
    one = trades-lt r m.reveal d.shown

    long-ts : length ts ≡ r.trades
    long-ts = length-trade r.trades one m.trade

    long-bs : length bs ≡ r.bids
    long-bs = length-take-le r.bids m.bids (omega (arith, shaped.bids-long, d.few-bids))

    -- the three parts are the pairs that the quote uses
    all-pairs : encode (pair_cells r.trades) (flat ts) ++ (encode (pair_cells r.bids) (flat bs) ++ encode (pair_cells r.asks) (flat cs))
        ≡ encode (pair_cells (pair_count (revealed m.reveal))) (flat (used_pairs m))
    all-pairs =
        sym (encode-more r.trades (r.bids + r.asks) ts (bs ++ cs) long-ts
        ∙ ap (λ (x : List ℕ). encode (pair_cells r.trades) (flat ts) ++ x) (encode-more r.bids r.asks bs cs long-bs))
        ∙ ap (λ (x : Reveal). encode (pair_cells (pair_count x)) (flat (take x.trades (m.trade ∷ []) ++ (take x.bids m.bids ++ take x.asks m.asks)))) d.shown

    pub sides-put : (buf b₁ b₂ b₃ : List ℕ)
        → b₁ ≡ sets buf 29 (encode (pair_cells r.trades) (flat (take r.trades (replicate 5 m.trade))))
        → b₂ ≡ sets b₁ (29 + 9 * r.trades) (encode (pair_cells r.bids) (flat bs))
        → b₃ ≡ sets b₂ (29 + 9 * r.trades + 9 * r.bids) (encode (pair_cells r.asks) (flat cs))
        → b₃ ≡ sets buf 29 (encode (pair_cells (pair_count (revealed m.reveal))) (flat (used_pairs m)))
    sides-put buf b₁ b₂ b₃ q₁ q₂ q₃ =
        let x = encode (pair_cells r.trades) (flat ts) in
        let y = encode (pair_cells r.bids) (flat bs) in
        let z = encode (pair_cells r.asks) (flat cs) in
        let lx : length x ≡ 9 * r.trades = length_pairs r.trades ts long-ts in
        let ly : length y ≡ 9 * r.bids = length_pairs r.bids bs long-bs in
        let p₁ : b₁ ≡ sets buf 29 x = q₁ ∙ ap (λ (v : List Pair). sets buf 29 (encode (pair_cells r.trades) (flat v))) (copies r.trades 4 m.trade (omega (arith, one))) in
        let p₂ : b₂ ≡ sets buf 29 (x ++ y) = q₂ ∙ put_next x buf b₁ 29 (29 + 9 * r.trades) p₁ (omega arith) y in
        let k : 29 + length (x ++ y) ≡ 29 + 9 * r.trades + 9 * r.bids = omega (arith, length-append x y) in
        q₃ ∙ put_next (x ++ y) buf b₂ 29 (29 + 9 * r.trades + 9 * r.bids) p₂ k z
        ∙ ap (sets buf 29) (append_assoc x y z ∙ all-pairs)
