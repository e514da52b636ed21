-- `read_index` meets its contract: the outline's answer, or what its body reads behind the header.
use Rattle.std.specs.Prelude.{Ok}
use Prim.Native.Nat.{◌+◌, ◌≤◌}
use mathlib.Core.Path.{◌≡◌, refl, sym, ◌∙◌}
use native.Mathlib.Omega.{arith}
use lib.ListN.{length, drop}
use Rattle.derivatives_frame.specs.Outline.{outline_of}
use Rattle.derivatives_reading.proofs.ReadingLaws.{read-not, head-least, head-within, read_whole}
use Rattle.derivatives_reading.proofs.read_index.Goals as goal

pub overflow_add-start : goal.overflow_add-start
overflow_add-start c =
    let whole : let a = c.args in outline_of (drop a.at a.line.now) ≡ Ok c.in-Ok.head = sym c.outline.ensures ∙ c.in-Ok.is in
    let least : 17 ≤ c.in-Ok.head.length = let a = c.args in head-least a.line.now a.at c.in-Ok.head whole in
    let within : let a = c.args in a.at + c.in-Ok.head.length ≤ length a.line.now = let a = c.args in head-within a.line.now a.at c.in-Ok.head whole in
    omega (arith, least, within)

pub overflow_add-end : goal.overflow_add-end
overflow_add-end c =
    let whole : let a = c.args in outline_of (drop a.at a.line.now) ≡ Ok c.in-Ok.head = sym c.outline.ensures ∙ c.in-Ok.is in
    let within : let a = c.args in a.at + c.in-Ok.head.length ≤ length a.line.now = let a = c.args in head-within a.line.now a.at c.in-Ok.head whole in
    omega (arith, within)

pub overflow_sub-end : goal.overflow_sub-end
overflow_sub-end c =
    let whole : let a = c.args in outline_of (drop a.at a.line.now) ≡ Ok c.in-Ok.head = sym c.outline.ensures ∙ c.in-Ok.is in
    let least : 17 ≤ c.in-Ok.head.length = let a = c.args in head-least a.line.now a.at c.in-Ok.head whole in
    omega (arith, least)

pub slice_bounds-read-count : goal.slice_bounds-read-count
slice_bounds-read-count c =
    let whole : let a = c.args in outline_of (drop a.at a.line.now) ≡ Ok c.in-Ok.head = sym c.outline.ensures ∙ c.in-Ok.is in
    let least : 17 ≤ c.in-Ok.head.length = let a = c.args in head-least a.line.now a.at c.in-Ok.head whole in
    omega (arith, least)

pub slice_bounds-read-start : goal.slice_bounds-read-start
slice_bounds-read-start c =
    let whole : let a = c.args in outline_of (drop a.at a.line.now) ≡ Ok c.in-Ok.head = sym c.outline.ensures ∙ c.in-Ok.is in
    let least : 17 ≤ c.in-Ok.head.length = let a = c.args in head-least a.line.now a.at c.in-Ok.head whole in
    omega (arith, least)

pub slice_bounds-read-end : goal.slice_bounds-read-end
slice_bounds-read-end c =
    let whole : let a = c.args in outline_of (drop a.at a.line.now) ≡ Ok c.in-Ok.head = sym c.outline.ensures ∙ c.in-Ok.is in
    let least : 17 ≤ c.in-Ok.head.length = let a = c.args in head-least a.line.now a.at c.in-Ok.head whole in
    let within : let a = c.args in a.at + c.in-Ok.head.length ≤ length a.line.now = let a = c.args in head-within a.line.now a.at c.in-Ok.head whole in
    omega (arith, least, within)

pub returns-in-Err : goal.returns-in-Err
returns-in-Err c =
    let a = c.args in
    (λ i. record { answer = c.in-Err.answer; index = c.empty-index.ensures i })
    ∙ read-not (drop a.at a.line.now) c.in-Err.answer (sym c.outline.ensures ∙ c.in-Err.is)

pub returns-in-Ok : goal.returns-in-Ok
returns-in-Ok c =
    let whole : let a = c.args in outline_of (drop a.at a.line.now) ≡ Ok c.in-Ok.head = sym c.outline.ensures ∙ c.in-Ok.is in
    let least : 17 ≤ c.in-Ok.head.length = let a = c.args in head-least a.line.now a.at c.in-Ok.head whole in
    let a = c.args in
    read_whole a.line.now a.at c.in-Ok.head whole c.read.result _ _ refl (omega (arith, least)) c.read.ensures
