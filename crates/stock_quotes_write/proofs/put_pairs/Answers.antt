-- `put_pairs` meets its contract. The loop's invariant: the first i pairs stand at their place.
use Prim.Native.Nat.{ℕ, ◌+◌, ◌*◌, ◌≤◌}
use mathlib.Core.Path.{◌≡◌, ap, ◌∙◌}
use borrow.Author.Rules.{rules}
use native.Mathlib.Omega.{arith}
use lib.ListN.{length, get_or, take}
use Rattle.digits.proofs.FieldLaws.{put-fits}
use lib.Seq.{sets, length-sets}
use Rattle.layout.specs.Cells.{encode}
use Rattle.stock_quotes.specs.Quotes.{no_pair, pair_cells, flat}
use Rattle.stock_quotes_write.proofs.PartLaws.{pair_fits, pairs_start, pairs-turn}
use Rattle.stock_quotes_write.proofs.put_pairs.Goals as goal

pub loop-i-init : goal.loop-i-init
loop-i-init c =
    let a = c.args in
    pairs_start a.pairs a.buf.now a.at

pub unwrap-requires-in-loop-i : goal.unwrap-requires-in-loop-i
unwrap-requires-in-loop-i c =
    let a = c.args in
    let l = c.loop-i in
    let n : length a.pairs ≡ 5 = search rules in
    let p = get_or a.pairs l.i no_pair in
    rw (c.write-in-loop-i.ensures.0
    ∙ (put-fits p.quantity.0 4 c.write.new.buf (a.at + 9 * l.i + 5) (omega arith) (omega (arith, c.requires.1, c.loop-i-test.true, c.write.auto.buf, c.loop-i.auto.buf)) (pair_fits a.count a.pairs l.i c.loop-i-test.true (omega (arith, c.requires.0)) c.requires.2).1).0)

pub loop-i-preserved : goal.loop-i-preserved
loop-i-preserved c =
    let a = c.args in
    let l = c.loop-i in
    let n : length a.pairs ≡ 5 = search rules in
    let few : a.count ≤ length a.pairs = omega (arith, c.requires.0) in
    pairs-turn a.pairs a.count few c.requires.2 a.buf.now a.at c.requires.1 l.i c.loop-i-test.true
    l.buf c.write.new.buf c.write-in-loop-i.new.buf l.invariant c.write.ensures.1 c.write-in-loop-i.ensures.1

pub shape_of-buf : goal.shape_of-buf
shape_of-buf c =
    let a = c.args in
    let l = c.loop-i in
    ap length l.invariant ∙ length-sets a.buf.now a.at (encode (pair_cells l.i) (flat (take l.i a.pairs)))

pub returns : goal.returns
returns c =
    let a = c.args in
    let l = c.loop-i in
    let e : l.i ≡ a.count = omega arith in
    l.invariant ∙ ap (λ (k : ℕ). sets a.buf.now a.at (encode (pair_cells k) (flat (take k a.pairs)))) e
