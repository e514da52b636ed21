-- `used` meets its contract.
use native.Mathlib.Omega.{arith}
use mathlib.Core.Path.{refl}
use lib.ListN.{drop_of_length-le}
use Rattle.ledger_ends.proofs.used.Goals as goal

pub returns-else-in_use-eq0 : goal.returns-else-in_use-eq0
returns-else-in_use-eq0 c = (omega arith, rw (drop_of_length-le c.args.ends.now {i = 129} (omega (arith, c.requires))) refl)
