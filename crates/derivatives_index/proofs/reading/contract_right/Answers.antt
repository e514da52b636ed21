-- `reading::contract_right` meets its contract: the contract is short, or long.
use Prim.Native.Nat.{ℕ, ◌-◌}
use mathlib.Core.Path.{◌≡◌, sym, ap, ◌∙◌}
use native.Mathlib.Omega.{arith}
use lib.ListN.{length, take}
use lib.Seq.{length-take-le}
use Rattle.codes_times.specs.Times.{code_right}
use Rattle.derivatives_index.proofs.ReadSteps.{long-one}
use Rattle.derivatives_index.proofs.reading.contract_right.Goals as goal

pub slice_bounds-code_right-end : goal.slice_bounds-code_right-end
slice_bounds-code_right-end c = sym (length-take-le 3 c.args.body.now (omega arith))

pub returns-then-body-eq12 : goal.returns-then-body-eq12
returns-then-body-eq12 c =
    let b = c.args.body.now in
    let e : 3 ≡ length b - 9 = omega arith in
    c.code_right.ensures ∙ ap (λ (n : ℕ). code_right (take n b)) e

pub slice_bounds-code_right-end-2 : goal.slice_bounds-code_right-end-2
slice_bounds-code_right-end-2 c =
    let long : length c.args.body.now ≡ 17 = long-one (length c.args.body.now) c.requires c.if-body-eq12.false in
    sym (length-take-le 8 c.args.body.now (omega (arith, long)))

pub returns : goal.returns
returns c =
    let long : length c.args.body.now ≡ 17 = long-one (length c.args.body.now) c.requires c.if-body-eq12.false in
    let b = c.args.body.now in
    let e : 8 ≡ length b - 9 = omega (arith, long) in
    c.code_right-2.ensures ∙ ap (λ (n : ℕ). code_right (take n b)) e
