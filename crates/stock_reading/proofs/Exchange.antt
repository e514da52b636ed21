-- The stock exchange is one of the exchanges, so the laws of a reading hold of it.
use Prim.Native.Nat.{ℕ}
use mathlib.Core.Path.{◌≡◌, refl}
use mathlib.Core.List.{List, ◌++◌}
use native.Mathlib.Omega.{arith}
use lib.ListN.{length, take, drop}
use lib.Dec.{eqb}
use borrow.Author.Tests.{eqb-true}
use Rattle.layout.specs.Cells.{size, good_cells}
use Rattle.layout.proofs.CheckLaws.{only-fails}
use Rattle.exchange.specs.Reading.{Behind, answer_by}
use Rattle.exchange.specs.Trips as common
use Rattle.stock_frame.specs.Outline.{body, business, format, version}
use Rattle.stock_frame.specs.Format.{body_checks}
use Rattle.stock_frame.specs.Codec.{Codec}
use Rattle.stock_frame.proofs.CodecLaws.{as_common}
use Rattle.stock_reading.specs.Reading.{format_of, kind_checks, stock, checks, answer_of, message_by}

-- its answers and its messages are those of the common reading
pub answer-stock : (t : List ℕ) → answer_by stock t ≡ answer_of t
unfolding answer_of checks
answer-stock t = refl

pub message-stock : {M : Type 0} (C : Codec M) (none : M) (t : List ℕ)
    → common.message_by stock (as_common C) (λ n. eqb n C.form.number) none t ≡ message_by C none t
unfolding message_by checks
message-stock C none t = refl

pub behind : Behind stock
behind = record {
  from-seven = λ f. refl;
  to-thirteen = λ f. refl;
  bad-digit = λ f e.
      let F = format_of (format f) in
      let kinds = kind_checks (business f) (format f) (version f) in
      let h = only-fails 11 (kinds ++ take 3 (body_checks F (body f))) (good_cells (F.cells (body f)) (body f)) (drop 4 (body_checks F (body f))) refl refl (λ z. omega arith) e in
      let same : size (F.cells (body f)) ≡ length (body f) = eqb-true (size (F.cells (body f))) (length (body f)) h.0.1.1.1.1.0 in
      (h.1, omega (arith, same));
}
