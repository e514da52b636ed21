-- `check::fold` meets its contract: eight bytes are folded to four, four to two, two to one.
use Prim.Native.Nat.{◌/◌, ◌^◌}
use mathlib.Core.Path.{sym, ◌∙◌}
use lib.Bits.{bit_xor}
use Rattle.words.proofs.XorLaws.{xor-halve, xor_low}
use Rattle.words.proofs.xor.fold.Goals as goal

pub returns : goal.returns
returns c =
    let x = c.args.x in
    let y = bit_xor x (x / 256 ^ 4) in
    let z = bit_xor y (y / 256 ^ 2) in
    xor_low (bit_xor z (z / 256 ^ 1)) ∙ sym (xor-halve 4 x ∙ xor-halve 2 y ∙ xor-halve 1 z)
