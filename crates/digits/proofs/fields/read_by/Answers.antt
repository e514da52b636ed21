-- `fields::read_by` meets its contract: nine bytes or fewer fit a u64.
use native.Mathlib.Omega.{arith}
use Rattle.digits.proofs.Powers.{pow-eight}
use Rattle.digits.proofs.fields.read_by.Goals as goal

pub overflow_mul-v : goal.overflow_mul-v
overflow_mul-v c = record { fits = omega (arith, pow-eight c.loop-k.k (omega arith)) }

pub overflow_add-v : goal.overflow_add-v
overflow_add-v c = record { fits = omega (arith, pow-eight c.loop-k.k (omega arith)) }
