-- `is_index` meets its contract.
use mathlib.Core.Path.{sym, ap, ◌∙◌}
use mathlib.Core.Bool.{Bool, ◌||◌}
use Rattle.c_outcomes.specs.Lent.{is_of}
use Rattle.c_index.proofs.is_index.Goals as goal

pub returns-then-is_of : goal.returns-then-is_of
returns-then-is_of c =
    let a = c.args.answer in
    sym (ap (λ (x : Bool). x || is_of 64 a) (sym c.is_of.ensures ∙ c.if-is_of.true))

pub returns : goal.returns
returns c =
    let a = c.args.answer in
    c.is_of-2.ensures ∙ sym (ap (λ (x : Bool). x || is_of 64 a) (sym c.is_of.ensures ∙ c.if-is_of.false))
