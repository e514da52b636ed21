-- `words::four` meets its contract: two loads of two bytes.
use borrow.Author.Rules.{rules}
use Rattle.words.proofs.LoadLaws.{load-join}
use Rattle.words.proofs.loads.four.Goals as goal

pub returns : goal.returns
returns c =
    let s = c.args in
    let p = c.two in
    let q = c.two-2 in
    (search rules, load-join 2 2 s.at p.result q.result s.s.now (search rules) p.ensures.1 q.ensures.1)
