-- `fields::limit` meets its contract. The loop's invariant: after so many turns the number is that power of 100.
use Rattle.std.specs.Prelude.{ℕ, ◌≡◌, ◌^◌}
use Rattle.std.proofs.Common.{arith, ap, ◌∙◌}
use Rattle.digits.proofs.Powers.{pow-eight}
use Rattle.digits.proofs.fields.limit.Goals as goal

pub overflow_mul-r : goal.overflow_mul-r
overflow_mul-r c = omega (arith, c.loop.invariant, pow-eight c.loop.counter (omega (arith, c.requires, c.loop-test.true)))

pub returns : goal.returns
returns c =
    let e : c.loop.counter ≡ c.args.n = omega arith in
    c.loop.invariant ∙ ap (λ (k : ℕ). 100 ^ k) e
