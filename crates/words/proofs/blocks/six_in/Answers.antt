-- `halves::six_in` meets its contract: two zero bytes stand before its own.
use borrow.Author.Rules.{rules}
use Prim.Native.Nat.{ℕ, ◌+◌, ◌*◌}
use mathlib.Core.Path.{ap, ◌∙◌}
use Rattle.words.specs.Words.{bytes}
use Rattle.words.specs.Blocks.{block_of}
use native.Mathlib.Omega.{arith}
use Rattle.words.proofs.LoadLaws.{halves-shift, load-join}
use Rattle.words.proofs.blocks.six_in.Goals as goal

pub returns : goal.returns
returns c =
    let s = c.args in
    let p = c.two in
    let q = c.four in
    c.digits.ensures ∙ ap (λ (x : ℕ). block_of 4 (bytes 8 x)) (omega arith) ∙ halves-shift 2 6 2 (p.result + q.result * 65536)
    ∙ ap (block_of 2) (load-join 2 4 s.at p.result q.result s.s.now (search rules) p.ensures.1 q.ensures.1)
