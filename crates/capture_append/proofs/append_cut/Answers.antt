-- `append_cut` meets its contract, return by return.
use Prim.Native.Nat.{ℕ, ◌*◌, min}
use mathlib.Core.Path.{sym, ap, ◌∙◌}
use mathlib.Core.List.{List}
use Rattle.std.proofs.lemmas.Result.{err_from_is_err_and}
use Rattle.capture_append.specs.Stores.{stores, stored_from}
use Rattle.capture_append.proofs.BuildLaws.{summed-whole}
use Rattle.capture_append.proofs.TakeLaws.{taken-small, taken-empty, taken-over, taken-refused, taken-full, taken_at}
use borrow.Author.Tests.{eqb-true, eqb-false}
use native.Mathlib.Omega.{arith}
use lib.ListN.{length}
use Rattle.capture_append.proofs.append_cut.Goals as goal

pub returns-then-capture-ne-SIZE : goal.returns-then-capture-ne-SIZE
returns-then-capture-ne-SIZE c = let a = c.args in let both = taken-small a.capture.now a.payload.now a.stores (λ e. omega (arith, e)) in record { value = both.0; capture_after = both.1 }

pub returns-then-is_empty : goal.returns-then-is_empty
returns-then-is_empty c =
    let a = c.args in
    let both = taken-empty a.capture.now a.payload.now a.stores (omega arith) (eqb-true (length a.payload.now) 0 (sym c.is_empty.ensures ∙ c.if-is_empty.true)) in record { value = both.0; capture_after = both.1 }

pub returns-then-payload-gt-MOST : goal.returns-then-payload-gt-MOST
returns-then-payload-gt-MOST c =
    let a = c.args in
    let both = taken-over a.capture.now a.payload.now a.stores (omega arith) (eqb-false (length a.payload.now) 0 (sym c.is_empty.ensures ∙ c.if-is_empty.false)) (omega arith) in record { value = both.0; capture_after = both.1 }

pub returns-in_err-n : goal.returns-in_err-n
returns-in_err-n c =
    let a = c.args in
    let p = err_from_is_err_and c.from_residual.result c.from_residual.ensures.1 in
    let both = taken-refused a.capture.now a.payload.now a.stores (omega arith) (eqb-false (length a.payload.now) 0 (sym c.is_empty.ensures ∙ c.if-is_empty.false)) (omega arith) c.in_err-n.field-0.0 (sym c.in_err-n.was ∙ c.finished.ensures) in
    record { value = rw (p.1, p.2) both.0; capture_after = both.1 }

pub returns-then-n-ge-PLACES : goal.returns-then-n-ge-PLACES
returns-then-n-ge-PLACES c =
    let a = c.args in
    let both = taken-full a.capture.now a.payload.now a.stores (omega arith) (eqb-false (length a.payload.now) 0 (sym c.is_empty.ensures ∙ c.if-is_empty.false)) (omega arith) c.in_ok-n.n (sym c.in_ok-n.was ∙ c.finished.ensures) (omega arith) in
    record { value = both.0; capture_after = both.1 }

pub invariant_of-entry : goal.invariant_of-entry
invariant_of-entry c =
    let a = c.args in
    let h = summed-whole a.payload.now c.check_sums-sums.result (omega arith) c.check_sums-sums.ensures in
    record { placed = omega arith; fits = omega arith; summed = h }

pub returns : goal.returns
returns c =
    let a = c.args in
    let at = taken_at a.capture.now a.payload.now a.stores (omega arith) (eqb-false (length a.payload.now) 0 (sym c.is_empty.ensures ∙ c.if-is_empty.false)) (omega arith) c.in_ok-n.n (sym c.in_ok-n.was ∙ c.finished.ensures) (omega arith) in
    record { value = at.0; capture_after = c.store_some.ensures ∙ ap (λ (l : List ℕ). stored_from a.capture.now (512 * c.in_ok-n.n) l (min a.stores stores)) c.block.ensures ∙ at.1 }
