-- `is_of` meets its contract, case by case.
use mathlib.Core.Path.{sym, ap}
use Rattle.c_outcomes.specs.Lent.{is_of}
use Rattle.c_outcomes.proofs.is_of.Goals as goal

pub returns-in-Accepted : goal.returns-in-Accepted
returns-in-Accepted c = ap (is_of c.args.format) (sym c.in-Accepted.is)
