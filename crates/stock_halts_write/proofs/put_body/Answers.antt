-- `put_body` meets its contract.
use Prim.Native.Nat.{◌+◌, ◌≤◌}
use mathlib.Core.Path.{◌≡◌, sym, ap, ◌∙◌}
use native.Mathlib.Omega.{arith}
use lib.ListN.{length, set}
use lib.Seq.{sets, length-sets}
use Rattle.layout.specs.Cells.{encode}
use Rattle.layout.proofs.PutLaws.{bytes-in}
use Rattle.stock_halts.specs.Halts.{nineteen_cells, halt_values}
use Rattle.stock_halts_write.proofs.WriteLaws.{body-put}
use borrow.Author.Rules.{rules}
use Rattle.stock_halts_write.proofs.put_body.Goals as goal

pub shape_of-buf : goal.shape_of-buf
shape_of-buf c =
    let put : set c.write-2.new.buf 22 c.sending_byte.result ≡ sets c.args.buf.now 10 (encode nineteen_cells (halt_values c.args.m)) = let a = c.args in let l : length a.m.code ≡ 6 = search rules in let big : 26 ≤ length a.buf.now = c.requires.0 in let room : 10 + length a.m.code ≤ length a.buf.now = omega arith in body-put a.m (record { code-long = l }) c.requires.1 c.halt_time.result c.resume_time.result c.sending_byte.result c.halt_time.ensures c.resume_time.ensures c.sending_byte.ensures a.buf.now c.put_bytes.new.buf c.write.new.buf c.write-2.new.buf c.requires.0 (c.put_bytes.ensures ∙ sym (bytes-in a.m.code a.buf.now 10 room)) c.write.ensures.1 c.write-2.ensures.1 in
    let a = c.args in
    ap length put ∙ length-sets a.buf.now 10 (encode nineteen_cells (halt_values a.m))

pub returns : goal.returns
returns c =
    let put : set c.write-2.new.buf 22 c.sending_byte.result ≡ sets c.args.buf.now 10 (encode nineteen_cells (halt_values c.args.m)) = let a = c.args in let l : length a.m.code ≡ 6 = search rules in let big : 26 ≤ length a.buf.now = c.requires.0 in let room : 10 + length a.m.code ≤ length a.buf.now = omega arith in body-put a.m (record { code-long = l }) c.requires.1 c.halt_time.result c.resume_time.result c.sending_byte.result c.halt_time.ensures c.resume_time.ensures c.sending_byte.ensures a.buf.now c.put_bytes.new.buf c.write.new.buf c.write-2.new.buf c.requires.0 (c.put_bytes.ensures ∙ sym (bytes-in a.m.code a.buf.now 10 room)) c.write.ensures.1 c.write-2.ensures.1 in
    put
