-- Acceptance exactly by the checks, the figures beside an answer, and both round trips through the reading of a line; once for any format.
use Prim.Native.Nat.{ℕ}
use mathlib.Core.Path.{◌≡◌, sym, ap, ◌∙◌}
use mathlib.Core.Bool.{Bool, true}
use mathlib.Core.List.{List}
use mathlib.Core.Logic.{◌↔◌}
use lib.ListN.{length, get_or}
use lib.Dec.{eqb}
use borrow.Author.Tests.{eq-eqb, eqb-true}
use Rattle.layout.specs.Cells.{encode}
use Rattle.layout.specs.Checks.{first_fail}
use Rattle.answers.specs.Answers.{answer_number}
use Rattle.exchange.specs.Trips as common
use Rattle.exchange.specs.Trips.{Speaks}
use Rattle.exchange.proofs.ReadingLaws as any
use Rattle.exchange.proofs.TripLaws.{trips as trips-of}
use Rattle.frame.proofs.CodecLaws as laws
use Rattle.stock_frame.specs.Outline.{length_of, own, body, business, format, version, sequence, kind_values}
use Rattle.stock_frame.specs.Format.{body_checks}
use Rattle.stock_frame.specs.Writing.{written_over}
use Rattle.stock_frame.specs.Codec.{Codec, frame_of}
use Rattle.answers.specs.declared.Answer.TheVariants.{Accepted}
use Rattle.layout.specs.Checks.{all_hold}
use Rattle.stock_frame.proofs.FormatsLaws.{Listed}
use Rattle.stock_frame.proofs.OutlineLaws.{kind-frame}
use Rattle.stock_frame.proofs.FormatLaws.{bodied-passes, passes-bodied}
use Rattle.stock_frame.proofs.CodecLaws.{Lawful, as_common, rules-head, rules-bodied, bodied-rules, common-lawful, legal-seq, legal-common, common-legal, reads-common, common-reads}
use Rattle.stock_notices.specs.Notices.{five_codec, no_notice, ShapedNotice}
use Rattle.stock_notices.proofs.NoticeLaws.{notices-lawful}
use Rattle.stock_quotes.specs.Quotes.{six_codec, no_quote, ShapedQuote}
use Rattle.stock_quotes.proofs.QuoteLaws.{quotes-lawful}
use Rattle.stock_prices.specs.Prices.{twelve_codec, no_prices, ShapedPrices}
use Rattle.stock_prices.proofs.PriceLaws.{prices-lawful}
use Rattle.stock_halts.specs.Halts.{nineteen_codec, no_halt, ShapedHalt}
use Rattle.stock_halts.proofs.HaltLaws.{halts-lawful}
use Rattle.stock_reading.specs.Reading.{formats, format_of, is_format, stock, checks, answer_of, message_by}
use Rattle.stock_reading.specs.Trips.{AnswerSays, Trips}
use Rattle.stock_reading.proofs.Exchange.{behind}
use Rattle.stock_reading.proofs.HeaderLaws.{five-listed, six-listed, twelve-listed, nineteen-listed, header-holds, frame-known, frame-holds}

-- ---- the answer to any bytes
module _ (t : List ℕ) where
  -- an answer's number is the first check that fails
  pub answer-number : answer_number (answer_of t) ≡ first_fail (checks t)
  unfolding answer_of checks
  answer-number = any.answer-number stock t

  -- the header of an accepted frame names a format
  format-accepted : first_fail (checks t) ≡ 0 → is_format (format (own t)) ≡ true
  unfolding checks
  format-accepted z =
      let f = own t in
      let own-checks = sym (any.checks-outlined stock t (any.accepted-outlined stock t z)) ∙ z in
      (header-holds (business f) (format f) (version f) (body_checks (format_of (format f)) (body f)) own-checks).1

  says : common.AnswerSays stock t
  says = any.answer-says stock behind t

  pub answer-says : AnswerSays t
  unfolding answer_of checks
  answer-says = record {
    exactly = says.exactly;
    format-is = λ p. format-accepted (sym answer-number ∙ p);
    first = says.first;
    at-most = says.at-most;
    values = says.values;
  }

  -- a frame is accepted exactly when every check of the rules' table holds
  pub accepted-exactly : (answer_number (answer_of t) ≡ 0) ↔ all_hold (checks t)
  accepted-exactly = answer-says.exactly

-- ---- any codec whose format is in the list: the exchange's checks on a frame of it are the codec's rules
speaks : {M : Type 0} (C : Codec M) → Listed C.form formats → Speaks stock (as_common C) (λ n. eqb n C.form.number)
speaks C listed = record {
  passes = λ f s g r.
      let head = rules-head C.form (kind_values f) (body f) r in
      let o = rules-bodied C.form (kind_values f) (body f) s g r in
      (frame-known C.form listed f head.0 head.1 head.2 ∙ bodied-passes C.form (body f) o, eq-eqb (format f) C.form.number head.1);
  allows = λ f p h.
      let fm = eqb-true (format f) C.form.number h in
      let head = frame-holds C.form listed f p fm in
      let o = passes-bodied C.form (body f) (sym (frame-known C.form listed f head.0 fm head.1) ∙ p) in
      (o.sized, o.good-digits, bodied-rules C.form (kind_values f) (body f) head.0 fm head.1 o);
}

module _ {M : Type 0} (C : Codec M) (Shaped : M → Type 0) (law : Lawful C Shaped) (none : M)
    (listed : Listed C.form formats) where
  of-any : common.Trips stock (as_common C) (λ n. eqb n C.form.number) Shaped none
  of-any = trips-of stock (as_common C) (λ n. eqb n C.form.number) (speaks C listed) Shaped (common-lawful C Shaped law) none

  -- ---- the promises
  pub trips : Trips C Shaped none
  unfolding answer_of message_by checks
  trips = record {
    means = λ t f e n. common-reads C Shaped law t (message_by C none t) (of-any.means t f e (eq-eqb f.format C.form.number n));
    accepts = λ t m rd.
        let a = of-any.accepts t m (reads-common C Shaped law t m rd) in
        (a.0 ∙ ap (λ (n : ℕ). Accepted (record { format = n; seq = sequence (own t); length = length_of t })) rd.is-format, a.1);
    write_read = λ t f buf e n room.
        let m = message_by C none t in
        let has = eq-eqb f.format C.form.number n in
        let l = laws.legal-read (as_common C) Shaped (common-lawful C Shaped law) t m (of-any.means t f e has) in
        ap (λ (b : Bool). written_over b (frame_of C m) buf) (common-legal C Shaped law m l ∙ sym l) ∙ of-any.write_read t f buf e has room;
    read-write = λ m s l r.
        let a = of-any.read-write m s (legal-common C Shaped law m l) r in
        let kinds = kind-frame C.form.number C.form.version (C.seq m) (encode (C.cells m) (C.values m)) law.number_fits law.version-fits (legal-seq C m l) in
        (a.0 ∙ ap (λ (ks : List ℕ). Accepted (record { format = get_or ks 1 0; seq = get_or ks 3 0; length = length (frame_of C m) })) kinds, a.1);
  }

-- ---- the four formats
pub trips-five : Trips five_codec ShapedNotice no_notice
trips-five = trips five_codec ShapedNotice notices-lawful no_notice five-listed

pub trips-six : Trips six_codec ShapedQuote no_quote
trips-six = trips six_codec ShapedQuote quotes-lawful no_quote six-listed

pub trips-twelve : Trips twelve_codec ShapedPrices no_prices
trips-twelve = trips twelve_codec ShapedPrices prices-lawful no_prices twelve-listed

pub trips-nineteen : Trips nineteen_codec ShapedHalt no_halt
trips-nineteen = trips nineteen_codec ShapedHalt halts-lawful no_halt nineteen-listed
