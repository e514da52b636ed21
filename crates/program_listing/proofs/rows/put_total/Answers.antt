use Rattle.std.proofs.Common.{◌++◌}
use Rattle.printing.specs.Text.{field}
use Rattle.printing.proofs.TextLaws.{puts_then}
use Rattle.program_listing.specs.Listing.{comma, newline, total}
use Rattle.program_listing.proofs.rows.put_total.Goals as goal

pub returns : goal.returns
returns c =
    let a = c.args in
    let c1 = c.put_all-to in
    let c2 = c.put_field-to in
    let c3 = c.put_field-to-2 in
    let c4 = c.put_field in
    let p3 = puts_then (field a.t.refused comma) (field a.t.skipped newline) c2.result c3.result c4.result c2.new.out c3.new.out c4.new.out c3.ensures c4.ensures in
    let p2 = puts_then (field a.t.accepted comma) (field a.t.refused comma ++ field a.t.skipped newline) c1.result c2.result c4.result c1.new.out c2.new.out c4.new.out c2.ensures p3 in
    puts_then total (field a.t.accepted comma ++ (field a.t.refused comma ++ field a.t.skipped newline)) a.at c1.result c4.result a.out.now c1.new.out c4.new.out c1.ensures p2
