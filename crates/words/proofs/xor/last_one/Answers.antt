-- `xor::last_one` meets its contract: one byte more, or none.
use Prim.Native.Nat.{◌-◌, ◌%◌}
use mathlib.Core.Path.{ap, refl}
use native.Mathlib.Omega.{arith}
use lib.ListN.{length, get_or}
use Rattle.words.proofs.LoadLaws.{load_one}
use Rattle.words.specs.Steps.{gathered}
use Rattle.words.proofs.XorLaws.{gathered-more}
use Rattle.words.proofs.xor.last_one.Goals as goal

pub returns-then-left-ge1 : goal.returns-then-left-ge1
returns-then-left-ge1 c =
    let a = c.args in
    let l = a.s.now in
    let at = length l - length l % 2 in
    let b = get_or l at 0 in
    gathered-more 1 7 at (length l) a.x b l (omega arith) (omega arith) (c.type_inv.s at).fits
    (load_one at b l (omega arith) refl (c.type_inv.s at).fits)

pub returns : goal.returns
returns c = let a = c.args in ap (λ at. gathered a.x at a.s.now) (omega arith)
