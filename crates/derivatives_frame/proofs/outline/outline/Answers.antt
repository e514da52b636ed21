-- `outline::outline` meets its contract: each check that fails answers; the others are those of the frame's own bytes.
use native.Mathlib.Omega.{arith}
use mathlib.Core.Path.{◌∙◌}
use Rattle.derivatives_frame.proofs.OutlineSteps.{line-none, line_first, line-header, line-length, line-whole, line-part, line-own}
use Rattle.derivatives_frame.proofs.outline.outline.Goals as goal

pub returns-then-line-at : goal.returns-then-line-at
returns-then-line-at c =
    let a = c.args in
    line-none a.line.now a.at (omega arith)

pub returns-then-line-at-ne27 : goal.returns-then-line-at-ne27
returns-then-line-at-ne27 c =
    let a = c.args in
    line_first a.line.now a.at (omega arith) c.if-line-at-ne27.true

pub returns-then-left-lt14 : goal.returns-then-left-lt14
returns-then-left-lt14 c =
    let a = c.args in
    line-header a.line.now a.at (omega arith) c.if-line-at-ne27.false (omega arith)

pub returns-in_default : goal.returns-in_default
returns-in_default c =
    let a = c.args in
    line-length a.line.now a.at (omega arith) c.if-line-at-ne27.false (omega arith) c.length_in.result c.length_in.ensures c.in_default.is
    c.length_place.result c.length_place.ensures

pub returns-then-left-n : goal.returns-then-left-n
returns-then-left-n c =
    let a = c.args in
    line-whole a.line.now a.at (omega arith) c.if-line-at-ne27.false (omega arith) c.length_in.result c.length_in.ensures c.in-Some.n c.in-Some.is (omega arith)

pub own_outline-requires : goal.own_outline-requires
own_outline-requires c =
    let a = c.args in
    line-part a.line.now a.at (omega arith) c.if-line-at-ne27.false (omega arith) c.length_in.result c.length_in.ensures c.in-Some.n c.in-Some.is (omega arith)

pub returns : goal.returns
returns c =
    let a = c.args in
    c.own_outline.ensures
    ∙ line-own a.line.now a.at (omega arith) c.if-line-at-ne27.false (omega arith) c.length_in.result c.length_in.ensures c.in-Some.n c.in-Some.is (omega arith)
