-- `trivsome_write_notice_numbers` meets its contract.
use mathlib.Core.Path.{◌≡◌, ap, ◌∙◌}
use Rattle.stock_frame.specs.Codec.{legal, frame_of}
use Rattle.stock_frame.specs.Writing.{write_answer}
use Rattle.stock_notices.specs.Notices.{five_codec, notice_from}
use Rattle.c_outcomes.specs.Outcomes.{write_outcome}
use Rattle.c_notices.proofs.trivsome_write_notice_numbers.Goals as goal

pub returns : goal.returns
returns c =
    let a = c.args in
    let m = notice_from a.seq a.category a.text.now in
    let said : c.write_text.result ≡ write_answer (legal five_codec m) (frame_of five_codec m) a.buf.now = c.write_text.ensures.0 in
    record {
      value = c.of_written.ensures ∙ ap write_outcome said;
      buf_after = c.write_text.ensures.1;
    }
