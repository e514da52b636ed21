-- `trivsome_read_prices_numbers` meets its contract: a refusal or another format leaves what was lent.
use mathlib.Core.Path.{sym, ap, ◌∙◌}
use lib.ListN.{drop}
use Rattle.stock_prices.specs.declared.PricesReading.{PricesReading}
use Rattle.stock_reading.specs.Reading.{prices_at}
use Rattle.c_prices.specs.Slots.{slot_codes, slot_amounts, slot_times}
use Rattle.c_outcomes.specs.Outcomes.{read_outcome}
use Rattle.c_outcomes.specs.Lent.{is_of}
use Rattle.c_outcomes.proofs.LentLaws.{lent-filled, lent-kept}
use Rattle.c_prices.proofs.trivsome_read_prices_numbers.Goals as goal

pub returns-then-not-is_of : goal.returns-then-not-is_of
returns-then-not-is_of c =
    let o = c.args in
    let m = prices_at (drop o.at o.line.now) in
    let a = ap (λ (r : PricesReading). r.answer) c.read_prices-r.ensures in
    let other = sym (ap (is_of 12) a) ∙ sym c.is_of.ensures ∙ c.if-not-is_of.true in
    record {
      value = c.of_answer.ensures ∙ ap read_outcome a;
      count_after = lent-kept 12 m.answer m.prices.count o.count.now other;
      codes_after = lent-kept 12 m.answer (slot_codes m.prices.slots) o.codes.now other;
      amounts_after = lent-kept 12 m.answer (slot_amounts m.prices.slots) o.amounts.now other;
      times_after = lent-kept 12 m.answer (slot_times m.prices.slots) o.times.now other;
    }

pub returns : goal.returns
returns c =
    let o = c.args in
    let m = prices_at (drop o.at o.line.now) in
    let e = c.read_prices-r.ensures in
    let a = ap (λ (r : PricesReading). r.answer) e in
    let is = sym (ap (is_of 12) a) ∙ sym c.is_of.ensures ∙ c.if-not-is_of.false in
    record {
      value = c.of_answer-2.ensures ∙ ap read_outcome a;
      count_after = lent-filled 12 m.answer m.prices.count o.count.now _ is (ap (λ (r : PricesReading). r.prices.count) e);
      codes_after = lent-filled 12 m.answer (slot_codes m.prices.slots) o.codes.now _ is (c.slot_codes.ensures ∙ ap (λ (r : PricesReading). slot_codes r.prices.slots) e);
      amounts_after = lent-filled 12 m.answer (slot_amounts m.prices.slots) o.amounts.now _ is (c.slot_amounts.ensures ∙ ap (λ (r : PricesReading). slot_amounts r.prices.slots) e);
      times_after = lent-filled 12 m.answer (slot_times m.prices.slots) o.times.now _ is (c.slot_times.ensures ∙ ap (λ (r : PricesReading). slot_times r.prices.slots) e);
    }
