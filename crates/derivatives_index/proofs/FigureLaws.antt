-- Writing an index value tells the figures that the rules name beside its number, and no others.
use Prim.Native.Nat.{ℕ, ◌+◌}
use mathlib.Core.Path.{◌≡◌, ap, ◌∙◌}
use mathlib.Core.Bool.{true}
use mathlib.Core.List.{List, [], ◌∷◌}
use native.Mathlib.Omega.{arith}
use lib.ListN.{length}
use Rattle.frame.specs.Codec.{legal, frame_of}
use Rattle.frame.specs.Writing.{write_answer}
use Rattle.frame.specs.Figures.{WriteSays}
use Rattle.frame.proofs.CodecLaws.{length-frame_of}
use Rattle.frame.proofs.FigureLaws as common
use Rattle.derivatives_index.specs.Index.{index_codec, ShapedIndex}
use Rattle.derivatives_index.specs.declared.index.Index.{Index}
use Rattle.derivatives_index.proofs.IndexLaws.{size-index, index-lawful}

-- a frame has 26 bytes beside its contract
pub length-index : (m : Index) → ShapedIndex m → legal index_codec m ≡ true → length (frame_of index_codec m) ≡ 26 + m.length
length-index m s l = omega (arith, length-frame_of index_codec ShapedIndex index-lawful m s l, size-index m.length)

pub write-says : (m : Index) → ShapedIndex m → (buf : List ℕ)
    → WriteSays (legal index_codec m) (26 + m.length) (length buf) (write_answer (legal index_codec m) (frame_of index_codec m) buf)
write-says m s buf =
    let w = common.write-says (legal index_codec m) (frame_of index_codec m) buf in
    record {
      written = λ l h. let e = length-index m s l in let p = w.written l (omega (arith, e, h)) in (p.0, p.1 ∙ ap (λ (n : ℕ). n ∷ []) e);
      illegal = w.illegal;
      no_room = λ l h. w.no_room l (omega (arith, length-index m s l, h));
    }
