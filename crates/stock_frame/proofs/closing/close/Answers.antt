-- `closing::close` meets its contract: each test that fails refuses; then 27 and the header, the check byte over what
-- then stands there, and the end.
use native.Mathlib.Omega.{arith}
use Rattle.stock_frame.proofs.CloseLaws.{close-done}
use Rattle.stock_frame.proofs.closing.close.Goals as goal

pub returns : goal.returns
returns c =
    let a = c.args in
    close-done a.format a.version a.seq a.n a.buf.now (omega arith) (omega arith) (omega arith) (omega arith) (omega arith) (omega arith)
    c.write_head.new.buf c.xor_of-x.result c.write_head.ensures c.xor_of-x.ensures
