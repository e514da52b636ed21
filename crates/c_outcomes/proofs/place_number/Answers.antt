-- `place_number` meets its contract, case by case.
use mathlib.Core.Path.{sym, ap}
use Rattle.c_outcomes.specs.Outcomes.{place_number}
use Rattle.c_outcomes.proofs.place_number.Goals as goal

pub returns-in-Some : goal.returns-in-Some
returns-in-Some c = ap place_number (sym c.in-Some.is)
