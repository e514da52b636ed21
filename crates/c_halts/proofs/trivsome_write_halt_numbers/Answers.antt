-- `trivsome_write_halt_numbers` meets its contract: numbers of no event are 14.
use mathlib.Core.Path.{sym, ap, ◌∙◌}
use mathlib.Core.Bool.{Bool, ◌&&◌}
use Rattle.stock_frame.specs.Codec.{legal, frame_of}
use Rattle.stock_frame.specs.Writing.{write_answer, written_over}
use Rattle.stock_halts.specs.Halts.{nineteen_codec}
use Rattle.c_outcomes.specs.Outcomes.{write_outcome}
use Rattle.c_halts.specs.Halts.{halt_from}
use Rattle.c_outcomes.proofs.WriteLaws.{same_answer, same_bytes}
use Rattle.c_halts.proofs.trivsome_write_halt_numbers.Goals as goal

pub returns-then-not-tells_halt : goal.returns-then-not-tells_halt
returns-then-not-tells_halt c =
    let a = c.args in
    let no-halt = sym c.tells_halt.ensures ∙ c.if-not-tells_halt.true in
    let m = halt_from a.seq a.code.now a.event.now in record {
      value = c.of_written.ensures ∙ sym (ap (λ (t : Bool). write_outcome (write_answer (t && legal nineteen_codec m) (frame_of nineteen_codec m) a.buf.now)) no-halt);
      buf_after = sym (ap (λ (t : Bool). written_over (t && legal nineteen_codec m) (frame_of nineteen_codec m) a.buf.now) no-halt);
    }

pub returns : goal.returns
returns c =
    let a = c.args in
    let w = c.write.ensures in
    let q = c.halt_of-halt.ensures in
    let is = sym c.tells_halt.ensures ∙ c.if-not-tells_halt.false in
    let m = halt_from a.seq a.code.now a.event.now in
    let buf = a.buf.now in record {
      value = c.of_written-2.ensures ∙ ap write_outcome (w.0 ∙ same_answer nineteen_codec buf q) ∙ sym (ap (λ (t : Bool). write_outcome (write_answer (t && legal nineteen_codec m) (frame_of nineteen_codec m) buf)) is);
      buf_after = w.1 ∙ same_bytes nineteen_codec buf q ∙ sym (ap (λ (t : Bool). written_over (t && legal nineteen_codec m) (frame_of nineteen_codec m) buf) is);
    }
