-- Where the first bad digit of a layout's bytes is: the first half in its cells that is no digit there.
use Rattle.std.specs.Prelude.{ℕ, zero, suc, ◌+◌, ◌-◌, ◌*◌, Bool, false, cond, List, [], ◌∷◌, take, drop, ltb, None, Option}
use Rattle.digits.specs.Halves.{bad_field, is_bad, or_else}
use Rattle.layout.specs.Cells.{Cell, raw, digits, cell_size}

-- the first bad half of a cell's bytes, where p halves stand before them; a byte that is handed on as it is has none
abbrev pub cell_bad : Cell → ℕ → List ℕ → Option ℕ
cell_bad raw p bs = None
cell_bad (digits n) p bs = bad_field n p bs

-- the first bad half in the cells of a layout, where p halves stand before its bytes
abbrev pub first_bad : List Cell → ℕ → List ℕ → Option ℕ
first_bad [] p bs = None
first_bad (c ∷ cs) p bs = or_else (cell_bad c p (take (cell_size c) bs)) (first_bad cs (p + 2 * cell_size c) (drop (cell_size c) bs))

-- a half of a cell's bytes is no digit there
abbrev pub bad_in_cell : Cell → List ℕ → ℕ → Bool
bad_in_cell raw bs q = false
bad_in_cell (digits n) bs q = is_bad n bs q

-- a half of a layout's bytes is no digit in its cell
abbrev pub bad_half : List Cell → List ℕ → ℕ → Bool
bad_half [] bs q = false
bad_half (c ∷ cs) bs q =
    let k = cell_size c in
    cond (ltb q (2 * k)) (bad_in_cell c (take k bs) q) (bad_half cs (drop k bs) (q - 2 * k))

-- cells as numbers: 0 is a byte handed on as it is, n a packed field 9(n)
abbrev pub cell_of : ℕ → Cell
cell_of zero = raw
cell_of (suc n) = digits (suc n)

abbrev pub cells_of : List ℕ → List Cell
cells_of [] = []
cells_of (n ∷ ns) = cell_of n ∷ cells_of ns
