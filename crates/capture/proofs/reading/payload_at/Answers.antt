-- `reading::payload_at` meets its contract: by what is said of the finished blocks.
use Prim.Native.Nat.{ℕ}
use mathlib.Core.Path.{sym, ap, ◌∙◌}
use mathlib.Core.List.{List}
use Rattle.std.specs.Prelude.{Result, Ok}
use Rattle.std.proofs.lemmas.Result.{err_from_is_err_and}
use Rattle.capture.specs.Calls.{held_of}
use Rattle.capture.specs.Searches.{part_in}
use Rattle.capture.specs.declared.Unsound.{Unsound}
use Rattle.capture.proofs.JudgeLaws.{found-most}
use Rattle.capture.proofs.CallLaws.{held-refused, part_by, part_by_lem, blocks-say}
use native.Mathlib.Omega.{arith}
use Rattle.capture.proofs.reading.payload_at.Goals as goal

pub returns-in_err-capture : goal.returns-in_err-capture
returns-in_err-capture c =
    let p = err_from_is_err_and c.from_residual.result c.from_residual.ensures.1 in
    let a = c.args in
    rw (p.1, p.2) (ap (λ (h : Result ℕ Unsound). part_by h a.capture.now a.place) (held-refused a.capture.now c.in_err-capture.ensures) ∙ part_by_lem a.capture.now a.place)

pub returns-in_err-n : goal.returns-in_err-n
returns-in_err-n c =
    let p = err_from_is_err_and c.from_residual-in_err-n.result c.from_residual-in_err-n.ensures.1 in
    let a = c.args in
    let held = sym c.in_err-n.was ∙ c.judged.ensures ∙ ap held_of c.in_ok-capture.ensures.0 in
    rw (p.1, p.2) (ap (λ (h : Result ℕ Unsound). part_by h a.capture.now a.place) held ∙ part_by_lem a.capture.now a.place)

pub finished_part-requires : goal.finished_part-requires
finished_part-requires c =
    let m = c.in_ok-capture.capture.now in
    let says = blocks-say m c.in_ok-n.n (sym c.in_ok-n.was ∙ c.judged.ensures) in
    omega (arith, says.2, found-most m says.1)

pub returns : goal.returns
returns c =
    let a = c.args in
    let held = sym c.in_ok-n.was ∙ c.judged.ensures ∙ ap held_of c.in_ok-capture.ensures.0 in
    ap Ok (c.finished_part.ensures ∙ ap (λ (m : List ℕ). part_in m c.in_ok-n.n a.place) c.in_ok-capture.ensures.0)
    ∙ ap (λ (h : Result ℕ Unsound). part_by h a.capture.now a.place) held ∙ part_by_lem a.capture.now a.place
