use Rattle.std.proofs.Common.{◌++◌, sym, subst}
use Rattle.answers.specs.declared.Answer.{Answer}
use Rattle.printing.specs.Text.{Puts, decimal, field}
use Rattle.printing.proofs.TextLaws.{puts_then}
use Rattle.program_listing.specs.Listing.{comma, mark, frame_text}
use Rattle.program_listing.proofs.rows.put_frame.Goals as goal

pub returns-in-Accepted : goal.returns-in-Accepted
returns-in-Accepted c =
    let a = c.args in
    let f = c.in-Accepted.f in
    let c1 = c.put_mark-to in
    let c2 = c.put_field-to in
    let c3 = c.put_number in
    let p2 = puts_then (field f.format comma) (decimal f.seq) c1.result c2.result c3.result c1.new.out c2.new.out c3.new.out c2.ensures c3.ensures in
    subst (λ (x : Answer). Puts (frame_text a.exchange x) a.at a.out.now c3.result c3.new.out) (sym c.in-Accepted.is)
    (puts_then (mark a.exchange) (field f.format comma ++ decimal f.seq) a.at c1.result c3.result a.out.now c1.new.out c3.new.out c1.ensures p2)
