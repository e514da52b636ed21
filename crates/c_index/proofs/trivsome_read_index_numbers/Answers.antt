-- `trivsome_read_index_numbers` meets its contract: a refusal leaves what was lent.
use mathlib.Core.Path.{sym, ap, ◌∙◌}
use lib.ListN.{drop}
use Rattle.derivatives_index.specs.declared.index.IndexReading.{IndexReading}
use Rattle.derivatives_reading.specs.Reading.{index_at}
use Rattle.c_index.specs.Index.{index_bytes, index_numbers, is_index}
use Rattle.c_outcomes.specs.Outcomes.{read_outcome}
use Rattle.c_outcomes.proofs.LentLaws.{cond-filled, cond-kept}
use Rattle.c_index.proofs.trivsome_read_index_numbers.Goals as goal

pub returns-then-not-is_index : goal.returns-then-not-is_index
returns-then-not-is_index c =
    let o = c.args in
    let m = index_at (drop o.at o.line.now) in
    let a = ap (λ (r : IndexReading). r.answer) c.read_index-r.ensures in
    let other = sym (ap is_index a) ∙ sym c.is_index.ensures ∙ c.if-not-is_index.true in record {
      value = c.of_answer.ensures ∙ ap read_outcome a;
      contract_after = cond-kept (is_index m.answer) m.index.contract o.contract.now other;
      bytes_after = cond-kept (is_index m.answer) (index_bytes m.index) o.bytes.now other;
      numbers_after = cond-kept (is_index m.answer) (index_numbers m.index) o.numbers.now other;
    }

pub returns : goal.returns
returns c =
    let o = c.args in
    let m = index_at (drop o.at o.line.now) in
    let e = c.read_index-r.ensures in
    let a = ap (λ (r : IndexReading). r.answer) e in
    let is = sym (ap is_index a) ∙ sym c.is_index.ensures ∙ c.if-not-is_index.false in record {
      value = c.of_answer-2.ensures ∙ ap read_outcome a;
      contract_after = cond-filled (is_index m.answer) m.index.contract o.contract.now _ is (ap (λ (r : IndexReading). r.index.contract) e);
      bytes_after = cond-filled (is_index m.answer) (index_bytes m.index) o.bytes.now _ is (c.index_bytes.ensures ∙ ap (λ (r : IndexReading). index_bytes r.index) e);
      numbers_after = cond-filled (is_index m.answer) (index_numbers m.index) o.numbers.now _ is (c.index_numbers.ensures ∙ ap (λ (r : IndexReading). index_numbers r.index) e);
    }
