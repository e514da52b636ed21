-- `reading::read` meets its contract.
use Rattle.std.specs.Prelude.{Result}
use mathlib.Core.Path.{subst, ◌∙◌}
use lib.ListN.{drop}
use Rattle.stock_reading.specs.Steps.{WholeAt, found_says}
use Rattle.stock_reading.proofs.ReadingLaws.{answer-not}
use Rattle.stock_reading.proofs.PlaceLaws.{whole-answer}
use Rattle.stock_reading.proofs.reading.read.Goals as goal
use Rattle.stock_reading.specs.declared.reading.Whole.{Whole}
use Rattle.answers.specs.declared.Answer.{Answer}

pub returns-in-Err : goal.returns-in-Err
returns-in-Err c =
    let a = c.args in
    answer-not (drop a.at a.line.now) c.in-Err.answer
    (subst (λ (r : Result Whole Answer). found_says r a.line.now a.at) c.in-Err.is c.find.ensures)

pub returns-in-Ok : goal.returns-in-Ok
returns-in-Ok c =
    let told : WholeAt c.args.line.now c.args.at c.in-Ok.w = let a = c.args in subst (λ (r : Result Whole Answer). found_says r a.line.now a.at) c.in-Ok.is c.find.ensures in
    let a = c.args in
    c.answer_of.ensures ∙ whole-answer a.line.now a.at c.in-Ok.w told
