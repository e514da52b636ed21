-- `trivsome_read_quote_numbers` meets its contract: a refusal or another format leaves what was lent.
use mathlib.Core.Path.{sym, ap, ◌∙◌}
use lib.ListN.{drop}
use Rattle.stock_quotes.specs.declared.QuoteReading.{QuoteReading}
use Rattle.stock_reading.specs.Reading.{quote_at}
use Rattle.stock_quotes_numbers.specs.Numbers.{quote_bytes, quote_amounts}
use Rattle.c_outcomes.specs.Outcomes.{read_outcome}
use Rattle.c_outcomes.specs.Lent.{is_of}
use Rattle.c_outcomes.proofs.LentLaws.{lent-filled, lent-kept}
use Rattle.c_quotes.proofs.trivsome_read_quote_numbers.Goals as goal

pub returns-then-not-is_of : goal.returns-then-not-is_of
returns-then-not-is_of c =
    let o = c.args in
    let m = quote_at (drop o.at o.line.now) in
    let a = ap (λ (r : QuoteReading). r.answer) c.read_quote-r.ensures in
    let other = sym (ap (is_of 6) a) ∙ sym c.is_of.ensures ∙ c.if-not-is_of.true in
    record {
      value = c.of_answer.ensures ∙ ap read_outcome a;
      bytes_after = lent-kept 6 m.answer (quote_bytes m.quote) o.bytes.now other;
      time_after = lent-kept 6 m.answer m.quote.time o.time.now other;
      amounts_after = lent-kept 6 m.answer (quote_amounts m.quote) o.amounts.now other;
    }

pub returns : goal.returns
returns c =
    let o = c.args in
    let m = quote_at (drop o.at o.line.now) in
    let e = c.read_quote-r.ensures in
    let a = ap (λ (r : QuoteReading). r.answer) e in
    let is = sym (ap (is_of 6) a) ∙ sym c.is_of.ensures ∙ c.if-not-is_of.false in
    record {
      value = c.of_answer-2.ensures ∙ ap read_outcome a;
      bytes_after = lent-filled 6 m.answer (quote_bytes m.quote) o.bytes.now _ is (c.quote_bytes.ensures ∙ ap (λ (r : QuoteReading). quote_bytes r.quote) e);
      time_after = lent-filled 6 m.answer m.quote.time o.time.now _ is (ap (λ (r : QuoteReading). r.quote.time) e);
      amounts_after = lent-filled 6 m.answer (quote_amounts m.quote) o.amounts.now _ is (c.quote_amounts.ensures ∙ ap (λ (r : QuoteReading). quote_amounts r.quote) e);
    }
