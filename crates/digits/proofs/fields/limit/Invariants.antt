-- `fields::limit` meets its contract. The loop's invariant: after so many turns the number is that power of 100.
use Rattle.std.specs.Prelude.{◌≡◌, ◌^◌}
use Rattle.digits.proofs.fields.limit.Given as goal

abbrev pub invariant-loop : goal.invariant-loop
invariant-loop l = l.r ≡ 100 ^ l.counter
