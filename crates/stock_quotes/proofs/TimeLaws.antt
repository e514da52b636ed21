-- The rule on a quote's time.
use Prim.Native.Nat.{ℕ, ◌/◌, ◌^◌, ◌<◌}
use mathlib.Core.Path.{◌≡◌}
use mathlib.Core.Bool.{Bool, true, false, cond}
use mathlib.Core.List.{List}
use native.Mathlib.Omega.{arith}
use lib.Dec.{eqb}
use borrow.Author.Tests.{eqb-true, ltb-true}
use Rattle.digits.proofs.Bools.{and_left}
use Rattle.codes_times.specs.Times.{time_of_day, nines, zero_code}
use Rattle.stock_quotes.specs.Quotes.{quote_timed}

-- a time that the rule allows has twelve digits
pub timed-small : (code : List ℕ) (t : ℕ) → quote_timed code t ≡ true → t < 10 ^ 12
timed-small code t h = go (zero_code code) h
  where
    go : (z : Bool) → cond z (eqb t (nines 6)) (time_of_day 6 t) ≡ true → t < 10 ^ 12
    go true e = omega (arith, eqb-true t (nines 6) e)
    go false e = omega (arith, ltb-true (t / 10 ^ 10) 24 (and_left _ _ e))
