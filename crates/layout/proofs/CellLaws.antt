-- The laws of layouts, by induction over the cells: what is written is read, and what is read is written.
use Prim.Native.Nat.{ℕ, suc, ◌+◌, ◌^◌, ◌≤◌}
use mathlib.Core.Path.{◌≡◌, refl, sym, ap, ap₂, ◌∙◌}
use mathlib.Core.Bool.{Bool, true, ◌&&◌, and_assoc}
use mathlib.Core.List.{List, [], ◌∷◌, ◌++◌, append_assoc}
use native.Mathlib.Omega.{arith}
use lib.ListN.{length, get_or, take, drop, length-append, length-drop}
use lib.Seq.{take_at, drop_at, length-take-le, take-add, drop-drop}
use borrow.Author.Tests.{lt-ltb, ltb-true}
use Rattle.digits.specs.Packed.{width}
use Rattle.digits.proofs.Bools.{and_left, and_right, and_both, no_false}
use Rattle.digits.proofs.PackedLaws.{length-packed, value-field-packed, good-field-packed, packed-field-value, value-field-lt}
use Rattle.layout.specs.Cells.{Cell, raw, digits, cell_size, cell_good, cell_value, cell_fits, cell_bytes, size, good_cells, decode, fits, encode}

-- ---- one cell
cell-length : (c : Cell) (v : ℕ) → length (cell_bytes c v) ≡ cell_size c
cell-length raw v = refl
cell-length (digits n) v = length-packed (width n) v

cell-good-bytes : (c : Cell) (v : ℕ) → cell_fits c v ≡ true → cell_good c (cell_bytes c v) ≡ true
cell-good-bytes raw v h = refl
cell-good-bytes (digits n) v h = good-field-packed n v (ltb-true v (10 ^ n) h)

cell-value-bytes : (c : Cell) (v : ℕ) → cell_fits c v ≡ true → cell_value c (cell_bytes c v) ≡ v
cell-value-bytes raw v h = refl
cell-value-bytes (digits n) v h = value-field-packed n v (ltb-true v (10 ^ n) h)

one_byte : (bs : List ℕ) → length bs ≡ 1 → get_or bs 0 0 ∷ [] ≡ bs
one_byte [] h = let z : ◌≡◌ {A = ℕ} 0 1 = h in absurd (omega arith)
one_byte (b ∷ []) h = refl
one_byte (b ∷ c ∷ bs) h = absurd (omega arith)

cell-bytes-value : (c : Cell) (bs : List ℕ) → length bs ≡ cell_size c → cell_good c bs ≡ true → cell_bytes c (cell_value c bs) ≡ bs
cell-bytes-value raw bs l g = one_byte bs l
cell-bytes-value (digits n) bs l g = packed-field-value n bs l g

cell-fits-value : (c : Cell) (bs : List ℕ) → length bs ≡ cell_size c → cell_good c bs ≡ true → cell_fits c (cell_value c bs) ≡ true
cell-fits-value raw bs l g = refl
cell-fits-value (digits n) bs l g = lt-ltb _ _ (value-field-lt n bs l g)

-- ---- a layout: what is written is read, whatever follows it
pub length-encode : (cs : List Cell) (vs : List ℕ) → fits cs vs ≡ true → length (encode cs vs) ≡ size cs
length-encode [] vs h = refl
length-encode (c ∷ cs) [] h = absurd (no_false h)
length-encode (c ∷ cs) (v ∷ vs) h =
    length-append (cell_bytes c v) (encode cs vs) ∙ ap₂ ◌+◌ (cell-length c v) (length-encode cs vs (and_right (cell_fits c v) _ h))

first_cell : (c : Cell) (v : ℕ) (more r : List ℕ) → take (cell_size c) ((cell_bytes c v ++ more) ++ r) ≡ cell_bytes c v
first_cell c v more r = rw append_assoc (take_at (cell_bytes c v) (more ++ r) (cell_size c) (cell-length c v))

after-cell : (c : Cell) (v : ℕ) (more r : List ℕ) → drop (cell_size c) ((cell_bytes c v ++ more) ++ r) ≡ more ++ r
after-cell c v more r = rw append_assoc (drop_at (cell_bytes c v) (more ++ r) (cell_size c) (cell-length c v))

pub good-encode : (cs : List Cell) (vs r : List ℕ) → fits cs vs ≡ true → good_cells cs (encode cs vs ++ r) ≡ true
good-encode [] vs r h = refl
good-encode (c ∷ cs) [] r h = absurd (no_false h)
good-encode (c ∷ cs) (v ∷ vs) r h =
    let more = encode cs vs in
    and_both
    (ap (cell_good c) (first_cell c v more r) ∙ cell-good-bytes c v (and_left _ _ h))
    (ap (good_cells cs) (after-cell c v more r) ∙ good-encode cs vs r (and_right (cell_fits c v) _ h))

pub decode-encode : (cs : List Cell) (vs r : List ℕ) → fits cs vs ≡ true → decode cs (encode cs vs ++ r) ≡ vs
decode-encode [] [] r h = refl
decode-encode [] (v ∷ vs) r h = absurd (no_false h)
decode-encode (c ∷ cs) [] r h = absurd (no_false h)
decode-encode (c ∷ cs) (v ∷ vs) r h =
    let more = encode cs vs in
    ap₂ (λ (x : ℕ) (l : List ℕ). x ∷ l)
    (ap (cell_value c) (first_cell c v more r) ∙ cell-value-bytes c v (and_left _ _ h))
    (ap (decode cs) (after-cell c v more r) ∙ decode-encode cs vs r (and_right (cell_fits c v) _ h))

-- ---- a layout: what is read is written
module _ (c : Cell) (cs : List Cell) (bs : List ℕ) (l : size (c ∷ cs) ≤ length bs) where
  cell-taken : length (take (cell_size c) bs) ≡ cell_size c
  cell-taken = length-take-le (cell_size c) bs (omega arith)

  rest-enough : size cs ≤ length (drop (cell_size c) bs)
  rest-enough = rw length-drop (omega arith)

pub encode-decode : (cs : List Cell) (bs : List ℕ) → size cs ≤ length bs → good_cells cs bs ≡ true → encode cs (decode cs bs) ≡ take (size cs) bs
encode-decode [] bs l g = refl
encode-decode (c ∷ cs) bs l g =
    ap₂ ◌++◌
    (cell-bytes-value c (take (cell_size c) bs) (cell-taken c cs bs l) (and_left _ _ g))
    (encode-decode cs (drop (cell_size c) bs) (rest-enough c cs bs l) (and_right (cell_good c (take (cell_size c) bs)) _ g))
    ∙ sym (take-add (cell_size c) (size cs) bs)

pub fits-decode : (cs : List Cell) (bs : List ℕ) → size cs ≤ length bs → good_cells cs bs ≡ true → fits cs (decode cs bs) ≡ true
fits-decode [] bs l g = refl
fits-decode (c ∷ cs) bs l g =
    and_both
    (cell-fits-value c (take (cell_size c) bs) (cell-taken c cs bs l) (and_left _ _ g))
    (fits-decode cs (drop (cell_size c) bs) (rest-enough c cs bs l) (and_right (cell_good c (take (cell_size c) bs)) _ g))

pub length-decode : (cs : List Cell) (bs : List ℕ) → length (decode cs bs) ≡ length cs
length-decode [] bs = refl
length-decode (c ∷ cs) bs = ap suc (length-decode cs (drop (cell_size c) bs))

-- ---- a layout and then another
pub size-append : (cs ds : List Cell) → size (cs ++ ds) ≡ size cs + size ds
size-append [] ds = omega arith
size-append (c ∷ cs) ds = omega (arith, size-append cs ds)

pub good_cells-append : (cs ds : List Cell) (bs : List ℕ) → good_cells (cs ++ ds) bs ≡ (good_cells cs bs && good_cells ds (drop (size cs) bs))
good_cells-append [] ds bs = refl
good_cells-append (c ∷ cs) ds bs =
    let g = cell_good c (take (cell_size c) bs) in
    let rest = good_cells cs (drop (cell_size c) bs) in
    ap (λ (x : Bool). g && x)
    (good_cells-append cs ds (drop (cell_size c) bs) ∙ ap (λ (l : List ℕ). rest && good_cells ds l) (drop-drop (size cs) (cell_size c) bs))
    ∙ sym (and_assoc g rest (good_cells ds (drop (cell_size c + size cs) bs)))

pub decode-append : (cs ds : List Cell) (bs : List ℕ) → decode (cs ++ ds) bs ≡ decode cs bs ++ decode ds (drop (size cs) bs)
decode-append [] ds bs = refl
decode-append (c ∷ cs) ds bs =
    ap (λ (l : List ℕ). cell_value c (take (cell_size c) bs) ∷ l)
    (decode-append cs ds (drop (cell_size c) bs) ∙ ap (λ (l : List ℕ). decode cs (drop (cell_size c) bs) ++ decode ds l) (drop-drop (size cs) (cell_size c) bs))
