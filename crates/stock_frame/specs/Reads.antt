-- The rules on a frame by their names: its outline, its body, and the message that its bytes mean.
use Rattle.std.specs.Prelude.{ℕ, ◌≡◌, true, List, length, eqb}
use Rattle.frame.specs.Header as common
use Rattle.layout.specs.Cells.{size, good_cells}
use Rattle.stock_frame.specs.Outline.{header, own, body, business, format, version, sequence}
use Rattle.stock_frame.specs.Format.{Format, values_of, ranged}
use Rattle.stock_frame.specs.Codec.{Codec}

-- the bytes t begin with a frame whose outline is whole
abbrev pub Outlined : List ℕ → Type 0
Outlined t = common.Outlined header t

-- the body b is one that its format allows
pub record Bodied (F : Format) (b : List ℕ) : Type 0 where
  pub within-range : ranged F (length b) ≡ true
  pub levelled : F.levels (values_of F b) ≡ true
  pub sized : eqb (size (F.cells b)) (length b) ≡ true
  pub good-digits : good_cells (F.cells b) b ≡ true
  pub good-times : F.timed (values_of F b) ≡ true
  pub good-fields : F.ruled (values_of F b) ≡ true

-- the bytes t begin with a frame of the codec's format that the rules allow, and m is the message that its bytes mean
pub record Reads {M : Type 0} (C : Codec M) (t : List ℕ) (m : M) : Type 0 where
  pub outlined : Outlined t
  pub is-business : business (own t) ≡ 1
  pub is-format : format (own t) ≡ C.form.number
  pub is-version : version (own t) ≡ C.form.version
  pub bodied : Bodied C.form (body (own t))
  pub meant : m ≡ C.message (sequence (own t)) (values_of C.form (body (own t)))
