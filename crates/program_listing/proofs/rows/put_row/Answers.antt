use Rattle.std.proofs.Common.{ℕ, [], ◌∷◌, ◌++◌, subst}
use Rattle.printing.specs.Text.{Puts, field}
use Rattle.printing.proofs.TextLaws.{puts_then}
use Rattle.program_listing.specs.Listing.{comma, newline, frame_text}
use Rattle.program_listing.proofs.rows.put_row.Goals as goal

pub returns : goal.returns
returns c =
    let a = c.args in
    let n = c.number-n in
    let c1 = c.put_field-to in
    let c2 = c.put_field-to-2 in
    let c3 = c.put_field-to-3 in
    let c4 = c.put_frame-to in
    let c5 = c.put in
    let end = frame_text a.exchange a.row.answer in
    let p4 = puts_then end (newline ∷ []) c3.result c4.result c5.result c3.new.out c4.new.out c5.new.out c4.ensures c5.ensures in
    let p3 = puts_then (field a.row.bytes comma) (end ++ (newline ∷ [])) c2.result c3.result c5.result c2.new.out c3.new.out c5.new.out c3.ensures p4 in
    let p2 = puts_then (field n.result comma) (field a.row.bytes comma ++ (end ++ (newline ∷ []))) c1.result c2.result c5.result c1.new.out c2.new.out c5.new.out c2.ensures p3 in
    subst
    (λ (x : ℕ). Puts (field a.row.at comma ++ (field x comma ++ (field a.row.bytes comma ++ (end ++ (newline ∷ []))))) a.at a.out.now c5.result c5.new.out)
    n.ensures
    (puts_then (field a.row.at comma) (field n.result comma ++ (field a.row.bytes comma ++ (end ++ (newline ∷ [])))) a.at c1.result c5.result a.out.now c1.new.out c5.new.out c1.ensures p2)
