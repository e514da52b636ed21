-- An outline and a writing tell the figures that the rules name beside their numbers, and no others.
use Rattle.std.specs.Prelude.{Err, Ok}
use Prim.Native.Nat.{ℕ}
use mathlib.Core.Path.{refl}
use mathlib.Core.List.{List}
use lib.ListN.{length}
use Rattle.frame.proofs.FigureLaws as common
pub use Rattle.frame.proofs.FigureLaws.{number-named, fails-at-most}
use Rattle.stock_frame.specs.Outline.{header, own, head_of, outline_of}
use Rattle.stock_frame.specs.Writing.{closable, close_answer}
use Rattle.stock_frame.specs.Figures.{outline_number, outline_values, head_figures, OutlineSays, WriteSays}

pub outline-says : (t : List ℕ) → OutlineSays t
unfolding outline_of
outline-says t =
    common.outline-tells outline_number outline_values Err (λ a. refl) (λ a. refl) header t (Ok (head_of (own t))) (head_figures (head_of (own t))) refl refl

-- of closing a frame around a body
pub close-says : (format version seq n : ℕ) (buf : List ℕ) → WriteSays (closable format version seq n) n (length buf) (close_answer format version seq n buf)
close-says format version seq n buf = common.close-says (closable format version seq n) n buf
