-- `read` meets its contract: a law for each answer.
use Prim.Native.Nat.{◌+◌, ◌*◌, ◌/◌, ◌%◌, ◌≤◌, ◌<◌}
use mathlib.Core.Path.{◌≡◌, sym, ap, ◌∙◌}
use mathlib.Core.Bool.{true}
use native.Mathlib.Omega.{arith}
use lib.ListN.{length, get_or}
use lib.Dec.{leb}
use borrow.Author.Rules.{rules}
use borrow.Author.Tests.{leb-true}
use Rattle.digits.specs.Packed.{good_byte}
use Rattle.digits.proofs.Bools.{and_left, and_right}
use Rattle.layout.specs.Checks.{first_fail}
use Rattle.stock_frame.specs.Format.{body_checks}
use Rattle.stock_prices.specs.Prices.{twelve}
use Rattle.stock_prices_read.specs.Steps.{without_prices}
use Rattle.stock_prices_read.proofs.ReadLaws.{refused_as, digit-as, wrong-length, bad-count, bad-slots, check-told, check-high, accepted}
use Rattle.stock_prices_read.proofs.read.Goals as goal

pub returns-then-body-ne-BODY : goal.returns-then-body-ne-BODY
returns-then-body-ne-BODY c =
    let a = c.args in
    refused_as a.seq a.body.now 9 _ (omega arith) (λ z. omega (arith, z)) (omega arith) (wrong-length a.body.now c.if-body-ne-BODY.true) c.refused.result c.refused.ensures

pub returns-then-not-good_byte : goal.returns-then-not-good_byte
returns-then-not-good_byte c =
    let long : length c.args.body.now ≡ 361 = c.if-body-ne-BODY.false in
    c.no_prices.ensures ∙ ap without_prices c.bad_answer.ensures
    ∙ digit-as c.args.seq c.args.body.now long (bad-count c.args.body.now long (sym c.good_byte.ensures ∙ c.if-not-good_byte.true))

pub overflow_mul-count : goal.overflow_mul-count
overflow_mul-count c =
    let good : good_byte (get_or c.args.body.now 0 0) ≡ true = sym c.good_byte.ensures ∙ c.if-not-good_byte.false in
    let high : get_or c.args.body.now 0 0 / 16 ≤ 9 = leb-true (get_or c.args.body.now 0 0 / 16) 9 (and_left _ _ good) in
    search (rules, high)

pub overflow_add-count : goal.overflow_add-count
overflow_add-count c =
    let good : good_byte (get_or c.args.body.now 0 0) ≡ true = sym c.good_byte.ensures ∙ c.if-not-good_byte.false in
    let high : get_or c.args.body.now 0 0 / 16 ≤ 9 = leb-true (get_or c.args.body.now 0 0 / 16) 9 (and_left _ _ good) in
    let low : get_or c.args.body.now 0 0 % 16 ≤ 9 = leb-true (get_or c.args.body.now 0 0 % 16) 9 (and_right (leb (get_or c.args.body.now 0 0 / 16) 9) _ good) in
    search (rules, high, low)

pub overflow_cast-n : goal.overflow_cast-n
overflow_cast-n c =
    let good : good_byte (get_or c.args.body.now 0 0) ≡ true = sym c.good_byte.ensures ∙ c.if-not-good_byte.false in
    let high : get_or c.args.body.now 0 0 / 16 ≤ 9 = leb-true (get_or c.args.body.now 0 0 / 16) 9 (and_left _ _ good) in
    let low : get_or c.args.body.now 0 0 % 16 ≤ 9 = leb-true (get_or c.args.body.now 0 0 % 16) 9 (and_right (leb (get_or c.args.body.now 0 0 / 16) 9) _ good) in
    search (rules, high, low)

pub returns-in_default : goal.returns-in_default
returns-in_default c =
    let long : length c.args.body.now ≡ 361 = c.if-body-ne-BODY.false in
    let good : good_byte (get_or c.args.body.now 0 0) ≡ true = sym c.good_byte.ensures ∙ c.if-not-good_byte.false in
    c.no_prices-in_default.ensures ∙ ap without_prices c.bad_answer-in_default.ensures
    ∙ digit-as c.args.seq c.args.body.now long
    (bad-slots c.args.body.now long good (c.in_default.ensures))

pub returns-then-check-gt0 : goal.returns-then-check-gt0
returns-then-check-gt0 c =
    let long : length c.args.body.now ≡ 361 = c.if-body-ne-BODY.false in
    let good : good_byte (get_or c.args.body.now 0 0) ≡ true = sym c.good_byte.ensures ∙ c.if-not-good_byte.false in
    let fails : first_fail (body_checks twelve c.args.body.now) ≡ c.check_of-check.result = let told = c.in-Some.ensures in check-told c.args.body.now long good told.0 c.in-Some.f.timed c.in-Some.f.ruled told.2 told.3 ∙ sym c.check_of-check.ensures in
    let f = c.in-Some.f in
    let n = get_or c.args.body.now 0 0 / 16 * 10 + get_or c.args.body.now 0 0 % 16 in
    let h : 11 < c.check_of-check.result = rw c.check_of-check.ensures (check-high f.timed n f.ruled (rw (← c.check_of-check.ensures) c.if-check-gt0.true)) in
    refused_as c.args.seq c.args.body.now c.check_of-check.result 374 (omega (arith, h)) (λ z. omega (arith, h, z)) (omega (arith, long)) fails c.refused-then-check-gt0.result c.refused-then-check-gt0.ensures

pub returns : goal.returns
returns c =
    let long : length c.args.body.now ≡ 361 = c.if-body-ne-BODY.false in
    let good : good_byte (get_or c.args.body.now 0 0) ≡ true = sym c.good_byte.ensures ∙ c.if-not-good_byte.false in
    let fails : first_fail (body_checks twelve c.args.body.now) ≡ c.check_of-check.result = let told = c.in-Some.ensures in check-told c.args.body.now long good told.0 c.in-Some.f.timed c.in-Some.f.ruled told.2 told.3 ∙ sym c.check_of-check.ensures in
    let z : c.check_of-check.result ≡ 0 = omega (arith, c.if-check-gt0.false) in
    c.accepted.ensures
    ∙ accepted c.args.body.now long c.args.seq c.in-Some.f.slots c.in-Some.ensures.1 (fails ∙ z)
