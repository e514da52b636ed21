-- `fields::write` meets its contract: the first bytes, and the last four behind them.
use Prim.Native.Nat.{ℕ, ◌+◌, ◌-◌, ◌%◌}
use mathlib.Core.Path.{ap, ◌∙◌}
use mathlib.Core.List.{List}
use native.Mathlib.Omega.{arith}
use lib.Seq.{sets}
use Rattle.digits.specs.Packed.{packed}
use Rattle.digits.proofs.WriteSteps.{write_done}
use Rattle.digits.proofs.PutLaws.{put-join}
use Rattle.digits.proofs.fields.write.Goals as goal

pub returns : goal.returns
returns c =
    let a = c.args in
    let last = ap (λ (l : List ℕ). sets l (a.at + (a.n - 4)) (packed 4 (a.v % 100000000))) c.put_each-2.ensures in
    write_done a.v a.n a.buf.now a.at c.put_four.new.buf (omega arith) (omega arith) (omega arith)
    (c.put_four.ensures ∙ last ∙ put-join a.v a.n a.at a.buf.now (omega arith))
