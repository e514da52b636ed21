-- `spell` meets its contract.
use Rattle.std.proofs.Common.{◌≡◌, ℕ, ◌+◌, ◌-◌, ◌%◌, arith, subst}
use Rattle.std.proofs.Math.ListN.{length-set}
use Rattle.printing.proofs.TextLaws.{Spelt, spelt-begins, spelt-ends, spelt-goes-on}
use Rattle.printing.proofs.spell.Goals as goal

pub loop-i-init : goal.loop-i-init
loop-i-init c = (omega arith, spelt-begins c.args.n c.args.digits.now c.requires)

pub loop-i-preserved : goal.loop-i-preserved
loop-i-preserved c =
    let l = c.loop-i in
    (omega arith, spelt-goes-on c.args.n (l.i - 1) l.rest l.digits l.invariant.1 c.if-rest-le-ONE_DIGIT.false (omega arith))

pub returns-then-rest-le-ONE_DIGIT : goal.returns-then-rest-le-ONE_DIGIT
returns-then-rest-le-ONE_DIGIT c =
    let l = c.loop-i in
    let s = l.invariant.1 in
    (omega (arith, length-set l.digits (l.i - 1) (48 + l.rest % 10), s.0), omega (arith, s.1), spelt-ends c.args.n (l.i - 1) l.rest l.digits s (λ h k. omega (arith, h, c.if-rest-le-ONE_DIGIT.true)))

pub returns : goal.returns
returns c =
    let l = c.loop-i in
    let first : l.i - 1 ≡ 0 = omega arith in
    let s : Spelt c.args.n 0 l.rest l.digits = subst (λ (i : ℕ). Spelt c.args.n i l.rest l.digits) first l.invariant.1 in
    (omega (arith, length-set l.digits 0 (48 + l.rest % 10), s.0), omega arith, spelt-ends c.args.n 0 l.rest l.digits s (λ h k. omega (arith, k)))
