-- `trivsome_read_halt_numbers` meets its contract: a refusal or another format leaves what was lent.
use mathlib.Core.Path.{sym, ap, ◌∙◌}
use lib.ListN.{drop}
use Rattle.stock_halts.specs.declared.HaltReading.{HaltReading}
use Rattle.stock_reading.specs.Reading.{halt_at}
use Rattle.c_halts.specs.Halts.{halt_numbers}
use Rattle.c_outcomes.specs.Outcomes.{read_outcome}
use Rattle.c_outcomes.specs.Lent.{is_of}
use Rattle.c_outcomes.proofs.LentLaws.{lent-filled, lent-kept}
use Rattle.c_halts.proofs.trivsome_read_halt_numbers.Goals as goal

pub returns-then-not-is_of : goal.returns-then-not-is_of
returns-then-not-is_of c =
    let o = c.args in
    let m = halt_at (drop o.at o.line.now) in
    let a = ap (λ (r : HaltReading). r.answer) c.read_halt-r.ensures in
    let other = sym (ap (is_of 19) a) ∙ sym c.is_of.ensures ∙ c.if-not-is_of.true in
    record {
      value = c.of_answer.ensures ∙ ap read_outcome a;
      code_after = lent-kept 19 m.answer m.halt.code o.code.now other;
      event_after = lent-kept 19 m.answer (halt_numbers m.halt) o.event.now other;
    }

pub returns : goal.returns
returns c =
    let o = c.args in
    let m = halt_at (drop o.at o.line.now) in
    let e = c.read_halt-r.ensures in
    let a = ap (λ (r : HaltReading). r.answer) e in
    let is = sym (ap (is_of 19) a) ∙ sym c.is_of.ensures ∙ c.if-not-is_of.false in
    record {
      value = c.of_answer-2.ensures ∙ ap read_outcome a;
      code_after = lent-filled 19 m.answer m.halt.code o.code.now _ is (ap (λ (r : HaltReading). r.halt.code) e);
      event_after = lent-filled 19 m.answer (halt_numbers m.halt) o.event.now _ is (c.halt_numbers.ensures ∙ ap (λ (r : HaltReading). halt_numbers r.halt) e);
    }
