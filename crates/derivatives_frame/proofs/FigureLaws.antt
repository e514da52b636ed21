-- An outline and the closing of a frame tell the figures that the rules name beside their numbers, and no others.
use Rattle.std.specs.Prelude.{Err, Ok}
use Prim.Native.Nat.{ℕ}
use mathlib.Core.Path.{refl}
use mathlib.Core.List.{List}
use lib.ListN.{length}
use Rattle.frame.specs.Header.{own}
use Rattle.frame.specs.Figures.{WriteSays}
use Rattle.frame.proofs.FigureLaws as common
use Rattle.derivatives_frame.specs.Outline.{header, head_of, outline_of}
use Rattle.derivatives_frame.specs.Closing.{closable, close_answer}
use Rattle.derivatives_frame.specs.Figures.{outline_number, outline_values, head_figures, OutlineSays}

pub outline-says : (t : List ℕ) → OutlineSays t
unfolding outline_of
outline-says t =
    common.outline-tells outline_number outline_values Err (λ a. refl) (λ a. refl) header t (Ok (head_of (own header t))) (head_figures (head_of (own header t))) refl refl

-- of closing a frame around a body
pub close-says : (sent seq version n : ℕ) (buf : List ℕ) → WriteSays (closable sent seq version n) n (length buf) (close_answer sent seq version n buf)
close-says sent seq version n buf = common.close-says (closable sent seq version n) n buf
