-- `words::eight` meets its contract: two loads of four bytes.
use borrow.Author.Rules.{rules}
use Rattle.words.proofs.LoadLaws.{load-join}
use Rattle.words.proofs.loads.eight.Goals as goal

pub returns : goal.returns
returns c =
    let s = c.args in
    let p = c.four in
    let q = c.four-2 in
    (search rules, load-join 4 4 s.at p.result q.result s.s.now (search rules) p.ensures.1 q.ensures.1)
