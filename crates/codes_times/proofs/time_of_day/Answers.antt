-- `rules::time_of_day` meets its contract.
use native.Mathlib.Omega.{arith}
use Rattle.codes_times.proofs.RuleLaws.{hours-over, minutes-over, seconds-say}
use Rattle.codes_times.proofs.time_of_day.Goals as goal

pub returns-then-hhmmss-gt23 : goal.returns-then-hhmmss-gt23
returns-then-hhmmss-gt23 c = hours-over c.args.hhmmss (omega arith)

pub returns-then-hhmmss-gt59 : goal.returns-then-hhmmss-gt59
returns-then-hhmmss-gt59 c = minutes-over c.args.hhmmss (omega arith) (omega arith)

pub returns : goal.returns
returns c = seconds-say c.args.hhmmss (omega arith) (omega arith)
