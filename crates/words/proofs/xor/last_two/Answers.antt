-- `check::last_two` meets its contract: 2 bytes more, or none.
use borrow.Author.Rules.{rules}
use Prim.Native.Nat.{◌-◌, ◌%◌}
use mathlib.Core.Path.{ap}
use native.Mathlib.Omega.{arith}
use lib.ListN.{length}
use Rattle.words.specs.Steps.{gathered}
use Rattle.words.proofs.XorLaws.{gathered-more}
use Rattle.words.proofs.xor.last_two.Goals as goal

pub returns-then-left-ge2 : goal.returns-then-left-ge2
returns-then-left-ge2 c =
    let a = c.args in
    let l = a.s.now in
    let w = c.two in
    gathered-more 2 6 (length l - length l % 4) (length l - length l % 2) a.x w.result l (omega arith) (omega arith) (search rules) w.ensures.1

pub returns : goal.returns
returns c = let a = c.args in ap (λ at. gathered a.x at a.s.now) (omega arith)
