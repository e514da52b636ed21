-- `reading::find_kind` meets its contract.
use Rattle.std.specs.Prelude.{Result, Err, ◌≡◌, drop}
use Rattle.std.proofs.Common.{rules, ap, subst, sym, ◌∙◌}
use borrow.Author.Tests.{ne_eqb}
use Rattle.answers.specs.declared.Answer.{Answer}
use Rattle.stock_reading.specs.declared.reading.Whole.{Whole}
use Rattle.stock_reading.specs.Steps.{WholeAt, found_says, kind_says, is_kind}
use Rattle.stock_reading.proofs.ReadingLaws.{answer-not}
use Rattle.stock_reading.proofs.PlaceLaws.{whole-answer}
use Rattle.stock_reading.proofs.reading.find_kind.Goals.{In_ok-w}
use Rattle.stock_reading.proofs.reading.find_kind.Goals as goal

-- what the frame at the place is
told : (c : In_ok-w) → WholeAt c.args.line.now c.args.at c.in_ok-w.w
told c = subst (λ (r : Result Whole Answer). found_says r c.args.line.now c.args.at) c.in_ok-w.was c.find.ensures

pub returns-then-w-kind : goal.returns-then-w-kind
returns-then-w-kind c = (told (goal.at.returns-then-w-kind c).In_ok-w, c.if-w-kind.true)

pub returns-in_err-w : goal.returns-in_err-w
returns-in_err-w c =
    let a = c.args in
    let answer = c.in_err-w.field-0.0 in
    let e = subst (λ (r : Result Whole Answer). found_says r a.line.now a.at) c.in_err-w.was c.find.ensures in
    let handed : c.from_residual.result ≡ Err answer = search rules in
    subst (λ (r : Result Whole Answer). kind_says r a.line.now a.at a.kind) (sym handed) (answer-not (drop a.at a.line.now) answer e, ap (is_kind a.kind) e)

pub returns : goal.returns
returns c =
    let w = c.in_ok-w.w in
    let t = told (goal.at.returns c).In_ok-w in (
      c.answer_of.ensures ∙ whole-answer c.args.line.now c.args.at w t,
      ap (is_kind c.args.kind) t.whole ∙ ne_eqb w.kind c.args.kind c.if-w-kind.false,
    )
