-- `read` meets its contract: at each return, the check that the tests before it tell.
use mathlib.Core.Path.{refl, ◌∙◌, sym}
use lib.ListN.{replicate}
use Rattle.stock_notices.specs.Notices.{room}
use native.Mathlib.Omega.{arith}
use Rattle.stock_notices_read.proofs.ReadSteps.{check-short, check-long, check-high, check-low, check-unknown, check-none, read-refused, read-digit, read-accepted}
use Rattle.stock_notices_read.proofs.read.Goals as goal

pub returns-then-n-lt1 : goal.returns-then-n-lt1
returns-then-n-lt1 c =
    let a = c.args in
    read-refused 9 a.seq a.body.now c.refused.result (omega arith) refl (check-short a.body.now (omega arith)) c.refused.ensures

pub returns-then-n-gt61 : goal.returns-then-n-gt61
returns-then-n-gt61 c =
    let a = c.args in
    read-refused 9 a.seq a.body.now c.refused-then-n-gt61.result (omega arith) refl (check-long a.body.now (omega arith)) c.refused-then-n-gt61.ensures

pub returns-then-high-gt9 : goal.returns-then-high-gt9
returns-then-high-gt9 c =
    let a = c.args in
    read-digit a.seq a.body.now c.no_notice.result (omega arith) (check-high a.body.now (omega arith) (omega arith) (omega arith)) (c.no_notice.ensures.0 ∙ c.bad_answer.ensures, c.no_notice.ensures.1)

pub returns-then-low-gt9 : goal.returns-then-low-gt9
returns-then-low-gt9 c =
    let a = c.args in
    read-digit a.seq a.body.now c.no_notice-then-low-gt9.result (omega arith) (check-low a.body.now (omega arith) (omega arith) (omega arith) (omega arith)) (c.no_notice-then-low-gt9.ensures.0 ∙ c.bad_answer-then-low-gt9.ensures, c.no_notice-then-low-gt9.ensures.1)

pub returns-then-not-known : goal.returns-then-not-known
returns-then-not-known c =
    let a = c.args in
    read-refused 13 a.seq a.body.now c.refused-then-not-known.result (omega arith) refl
    (check-unknown a.body.now (omega arith) (omega arith) (omega arith) (omega arith)
    (sym c.known.ensures ∙ c.if-not-known.true))
    c.refused-then-not-known.ensures

pub returns : goal.returns
returns c =
    let a = c.args in
    read-accepted a.seq a.body.now (replicate room 0) c.put_bytes.new.buf (omega arith) (omega arith)
    (check-none a.body.now (omega arith) (omega arith) (omega arith) (omega arith)
    (sym c.known.ensures ∙ c.if-not-known.false))
    refl c.put_bytes.ensures
