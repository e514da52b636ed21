-- `trivsome_read_notice_numbers` meets its contract: a refusal or another format leaves what was lent.
use mathlib.Core.Path.{sym, ap, ◌∙◌}
use native.Mathlib.Omega.{arith}
use lib.ListN.{drop}
use Rattle.stock_notices.specs.declared.NoticeReading.{NoticeReading}
use Rattle.stock_reading.specs.Reading.{notice_at}
use Rattle.c_outcomes.specs.Outcomes.{read_outcome}
use Rattle.c_outcomes.specs.Lent.{is_of}
use Rattle.c_outcomes.proofs.LentLaws.{lent-filled, lent-kept}
use Rattle.c_notices.proofs.NoticeBytes.{text-within, text-bytes}
use Rattle.c_notices.proofs.trivsome_read_notice_numbers.Goals as goal

pub returns-then-not-is_of : goal.returns-then-not-is_of
returns-then-not-is_of c =
    let o = c.args in
    let m = notice_at (drop o.at o.line.now) in
    let a = ap (λ (r : NoticeReading). r.answer) c.read_notice-r.ensures in
    let other = sym (ap (is_of 5) a) ∙ sym c.is_of.ensures ∙ c.if-not-is_of.true in
    record {
      value = c.of_answer.ensures ∙ ap read_outcome a;
      category_after = lent-kept 5 m.answer m.notice.category o.category.now other;
      text_after = lent-kept 5 m.answer m.notice.text o.text.now other;
    }

pub overflow_add-start : goal.overflow_add-start
overflow_add-start c =
    let o = c.args in
    let e = c.read_notice-r.ensures in
    let is = sym c.is_of.ensures ∙ c.if-not-is_of.false in
    omega (arith, text-within o.line.now o.at _ e is)

pub overflow_add-start-2 : goal.overflow_add-start-2
overflow_add-start-2 c =
    let o = c.args in
    let e = c.read_notice-r.ensures in
    let is = sym c.is_of.ensures ∙ c.if-not-is_of.false in
    omega (arith, text-within o.line.now o.at _ e is)

pub slice_bounds-put_bytes-end : goal.slice_bounds-put_bytes-end
slice_bounds-put_bytes-end c =
    let o = c.args in
    let e = c.read_notice-r.ensures in
    let is = sym c.is_of.ensures ∙ c.if-not-is_of.false in
    omega (arith, text-within o.line.now o.at _ e is)

pub returns : goal.returns
returns c =
    let o = c.args in
    let e = c.read_notice-r.ensures in
    let is = sym c.is_of.ensures ∙ c.if-not-is_of.false in
    let m = notice_at (drop o.at o.line.now) in
    let a = ap (λ (r : NoticeReading). r.answer) e in
    let five = sym (ap (is_of 5) a) ∙ is in record {
      value = c.of_answer-2.ensures ∙ ap read_outcome a;
      category_after = lent-filled 5 m.answer m.notice.category o.category.now _ five (ap (λ (r : NoticeReading). r.notice.category) e);
      text_after = lent-filled 5 m.answer m.notice.text o.text.now _ five (c.put_bytes.ensures ∙ text-bytes o.line.now o.at _ e is);
    }
