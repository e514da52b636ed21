-- `amount_at` meets its contract.
use mathlib.Core.Path.{sym}
use native.Mathlib.Omega.{arith}
use lib.ListN.{get_or-eq_default}
use Rattle.stock_quotes_numbers.proofs.amount_at.Goals as goal

pub returns : goal.returns
returns c = sym (get_or-eq_default c.args.amounts.now 0 {n = c.args.at} (omega arith))
