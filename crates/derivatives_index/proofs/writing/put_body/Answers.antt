-- `writing::put_body` meets its contract.
use Prim.Native.Nat.{◌+◌, ◌≤◌}
use mathlib.Core.Path.{◌≡◌, sym, ap, ◌∙◌}
use native.Mathlib.Omega.{arith}
use lib.ListN.{length, set}
use lib.Seq.{sets, length-sets, length-take-le}
use borrow.Author.Rules.{rules}
use Rattle.digits.proofs.FieldLaws.{put-fits}
use Rattle.layout.specs.Cells.{encode}
use Rattle.derivatives_index.specs.Index.{index_cells, index_values, room}
use Rattle.derivatives_index.proofs.WriteSteps.{keeps-room, keeps-time, keeps-value, day-small, body-put}
use Rattle.derivatives_index.proofs.writing.put_body.Goals as goal

pub slice_bounds-contract-end : goal.slice_bounds-contract-end
slice_bounds-contract-end c =
    let long : length c.args.m.contract ≡ room = search rules in
    let within : c.args.m.length ≤ length c.args.m.contract = omega (arith, long, keeps-room c.args.m c.requires.1) in
    within

pub slice_bounds-put_bytes-end : goal.slice_bounds-put_bytes-end
slice_bounds-put_bytes-end c =
    let long : length c.args.m.contract ≡ room = search rules in
    let within : c.args.m.length ≤ length c.args.m.contract = omega (arith, long, keeps-room c.args.m c.requires.1) in
    sym (length-take-le c.args.m.length c.args.m.contract within)

pub unwrap-requires : goal.unwrap-requires
unwrap-requires c =
    let m = c.args.m in
    rw (c.write.ensures.0 ∙ (put-fits m.time 4 c.put_bytes.new.buf (14 + m.length) (omega arith) (omega (arith, c.requires.0, c.put_bytes.auto.buf)) (day-small m.time (keeps-time m c.requires.1))).0)

pub unwrap-requires-2 : goal.unwrap-requires-2
unwrap-requires-2 c =
    let m = c.args.m in
    let long : length m.contract ≡ room = search rules in
    rw (c.write-2.ensures.0 ∙ (put-fits m.value.0 4 c.write.new.buf (18 + m.length) (omega arith) (omega (arith, c.requires.0, c.put_bytes.auto.buf, c.write.auto.buf)) (keeps-value m (record { contract-long = long }) c.requires.1)).0)

pub shape_of-buf : goal.shape_of-buf
shape_of-buf c =
    let long : length c.args.m.contract ≡ room = search rules in
    let put : set c.write-2.new.buf (22 + c.args.m.length) c.args.m.status ≡ sets c.args.buf.now 14 (encode (index_cells c.args.m.length) (index_values c.args.m)) = body-put c.args.m (record { contract-long = long }) c.requires.1 c.args.buf.now c.put_bytes.new.buf c.write.new.buf c.write-2.new.buf c.requires.0 c.put_bytes.ensures c.write.ensures.1 c.write-2.ensures.1 in
    let a = c.args in
    ap length put ∙ length-sets a.buf.now 14 (encode (index_cells a.m.length) (index_values a.m))

pub returns : goal.returns
returns c =
    let long : length c.args.m.contract ≡ room = search rules in
    let put : set c.write-2.new.buf (22 + c.args.m.length) c.args.m.status ≡ sets c.args.buf.now 14 (encode (index_cells c.args.m.length) (index_values c.args.m)) = body-put c.args.m (record { contract-long = long }) c.requires.1 c.args.buf.now c.put_bytes.new.buf c.write.new.buf c.write-2.new.buf c.requires.0 c.put_bytes.ensures c.write.ensures.1 c.write-2.ensures.1 in
    put
