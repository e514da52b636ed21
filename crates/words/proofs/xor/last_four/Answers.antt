-- `check::last_four` meets its contract: 4 bytes more, or none.
use borrow.Author.Rules.{rules}
use Prim.Native.Nat.{◌-◌, ◌%◌}
use mathlib.Core.Path.{ap}
use native.Mathlib.Omega.{arith}
use lib.ListN.{length}
use Rattle.words.specs.Steps.{gathered}
use Rattle.words.proofs.XorLaws.{gathered-more}
use Rattle.words.proofs.xor.last_four.Goals as goal

pub returns-then-left-ge4 : goal.returns-then-left-ge4
returns-then-left-ge4 c =
    let a = c.args in
    let l = a.s.now in
    let w = c.four in
    gathered-more 4 4 (length l - length l % 8) (length l - length l % 4) a.x w.result l (omega arith) (omega arith) (search rules) w.ensures.1

pub returns : goal.returns
returns c = let a = c.args in ap (λ at. gathered a.x at a.s.now) (omega arith)
