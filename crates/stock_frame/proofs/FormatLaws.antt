-- A body written is read, and a body that passes its checks is one that was written so.
use Prim.Native.Nat.{ℕ, ◌+◌, ◌≤◌}
use mathlib.Core.Path.{◌≡◌, sym, ap, ◌∙◌}
use mathlib.Core.Bool.{true}
use mathlib.Core.List.{List, [], ◌∷◌, append-nil}
use native.Mathlib.Omega.{arith}
use lib.ListN.{length, take, drop}
use lib.Dec.{eqb, leb}
use borrow.Author.Tests.{eq-eqb, eqb-true, leb-true}
use Rattle.digits.proofs.TestLaws.{holds}
use Rattle.layout.specs.Cells.{Cell, size, good_cells, decode, fits, encode}
use Rattle.layout.specs.Checks.{first_fail}
use Rattle.stock_frame.specs.Format.{Format, values_of, around, ranged, body_checks}
pub use Rattle.stock_frame.specs.Reads.{Bodied}
use Rattle.layout.proofs.CellLaws.{length-encode, good-encode, decode-encode, encode-decode, fits-decode}
use Rattle.layout.proofs.CheckLaws.{check-holds, checks-after}

-- a body's length is in the format's range
pub range-bounds : (F : Format) (n : ℕ) → ranged F n ≡ true → (F.least ≤ around + n) × (around + n ≤ F.most)
range-bounds F n r =
    let tests = leb F.least (around + n) ∷ leb (around + n) F.most ∷ [] in
    (leb-true F.least (around + n) (holds tests r 0), leb-true (around + n) F.most (holds tests r 1))

-- ---- the checks by their names
module _ (F : Format) (b : List ℕ) where
  pub bodied-passes : Bodied F b → first_fail (body_checks F b) ≡ 0
  bodied-passes o = rw (o.within-range, o.levelled, o.sized, o.good-digits, o.good-times, o.good-fields)

  pub passes-bodied : first_fail (body_checks F b) ≡ 0 → Bodied F b
  passes-bodied p =
      let checks = body_checks F b in
      let p1 = checks-after 8 (ranged F (length b)) (drop 1 checks) p in
      let p2 = checks-after 9 (F.levels (values_of F b)) (drop 2 checks) p1 in
      let p3 = checks-after 8 (eqb (size (F.cells b)) (length b)) (drop 3 checks) p2 in
      let p4 = checks-after 10 (good_cells (F.cells b) b) (drop 4 checks) p3 in
      let p5 = checks-after 11 (F.timed (values_of F b)) (drop 5 checks) p4 in
      record {
        within-range = check-holds 8 (ranged F (length b)) (drop 1 checks) p;
        levelled = check-holds 9 (F.levels (values_of F b)) (drop 2 checks) p1;
        sized = check-holds 8 (eqb (size (F.cells b)) (length b)) (drop 3 checks) p2;
        good-digits = check-holds 10 (good_cells (F.cells b) b) (drop 4 checks) p3;
        good-times = check-holds 11 (F.timed (values_of F b)) (drop 5 checks) p4;
        good-fields = check-holds 12 (F.ruled (values_of F b)) [] p5;
      }

-- ---- what is written is read
module _ (F : Format) (cs : List Cell) (vs : List ℕ) (ft : fits cs vs ≡ true) (told : F.cells (encode cs vs) ≡ cs) where
  pub values-encode : values_of F (encode cs vs) ≡ vs
  values-encode =
      ap (λ (k : List Cell). decode k (encode cs vs)) told
      ∙ ap (decode cs) (sym (append-nil (encode cs vs))) ∙ decode-encode cs vs [] ft

  pub bodied-encode : ranged F (size cs) ≡ true → F.levels vs ≡ true → F.timed vs ≡ true → F.ruled vs ≡ true → Bodied F (encode cs vs)
  bodied-encode r l t u = record {
    within-range = ap (ranged F) (length-encode cs vs ft) ∙ r;
    levelled = ap F.levels values-encode ∙ l;
    sized = eq-eqb (size (F.cells (encode cs vs))) (length (encode cs vs)) (ap size told ∙ sym (length-encode cs vs ft));
    good-digits =
        ap (λ (k : List Cell). good_cells k (encode cs vs)) told
        ∙ ap (good_cells cs) (sym (append-nil (encode cs vs))) ∙ good-encode cs vs [] ft;
    good-times = ap F.timed values-encode ∙ t;
    good-fields = ap F.ruled values-encode ∙ u;
  }

-- ---- what is read is written
module _ (F : Format) (b : List ℕ) (o : Bodied F b) where
  pub size-body : size (F.cells b) ≡ length b
  size-body = eqb-true (size (F.cells b)) (length b) o.sized

  pub encode-values : encode (F.cells b) (values_of F b) ≡ b
  encode-values =
      encode-decode (F.cells b) b (omega (arith, size-body)) o.good-digits
      ∙ ap (λ (n : ℕ). take n b) size-body ∙ lib.Seq.take-length b

  pub fits-values : fits (F.cells b) (values_of F b) ≡ true
  fits-values = fits-decode (F.cells b) b (omega (arith, size-body)) o.good-digits
