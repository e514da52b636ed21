-- A layout is a list of cells: how bytes are read as numbers, and numbers written as bytes.
use Rattle.std.specs.Prelude.{ℕ, ◌+◌, ◌^◌, Bool, true, false, ◌&&◌, List, [], ◌∷◌, ◌++◌, get_or, take, drop, ltb}
use Rattle.digits.specs.Packed.{width, good_field, value, packed}

-- a byte handed on as it is, or a packed field 9(n)
pub data Cell : Type 0 where
  raw : Cell
  digits : ℕ → Cell

-- the bytes that a cell takes
abbrev pub cell_size : Cell → ℕ
cell_size raw = 1
cell_size (digits n) = width n

-- a cell's bytes have no bad digit
abbrev pub cell_good : Cell → List ℕ → Bool
cell_good raw bs = true
cell_good (digits n) bs = good_field n bs

-- the number in a cell's bytes
abbrev pub cell_value : Cell → List ℕ → ℕ
cell_value raw bs = get_or bs 0 0
cell_value (digits n) bs = value bs

-- a number that a cell can hold: of a packed field, one of at most its digits
abbrev pub cell_fits : Cell → ℕ → Bool
cell_fits raw v = true
cell_fits (digits n) v = ltb v (10 ^ n)

-- a number as a cell's bytes
abbrev pub cell_bytes : Cell → ℕ → List ℕ
cell_bytes raw v = v ∷ []
cell_bytes (digits n) v = packed (width n) v

-- the bytes that a layout takes
abbrev pub size : List Cell → ℕ
size [] = 0
size (c ∷ cs) = cell_size c + size cs

-- no packed field has a bad digit
abbrev pub good_cells : List Cell → List ℕ → Bool
good_cells [] bs = true
good_cells (c ∷ cs) bs = cell_good c (take (cell_size c) bs) && good_cells cs (drop (cell_size c) bs)

-- the numbers that the bytes hold, cell by cell
abbrev pub decode : List Cell → List ℕ → List ℕ
decode [] bs = []
decode (c ∷ cs) bs = cell_value c (take (cell_size c) bs) ∷ decode cs (drop (cell_size c) bs)

-- as many numbers as cells, each one that its cell can hold
abbrev pub fits : List Cell → List ℕ → Bool
fits [] [] = true
fits [] (v ∷ vs) = false
fits (c ∷ cs) [] = false
fits (c ∷ cs) (v ∷ vs) = cell_fits c v && fits cs vs

-- the numbers as bytes, cell by cell
abbrev pub encode : List Cell → List ℕ → List ℕ
encode [] vs = []
encode (c ∷ cs) [] = []
encode (c ∷ cs) (v ∷ vs) = cell_bytes c v ++ encode cs vs
