-- `write` meets its contract: a notice with room and zeros behind its text is that of its parts.
use mathlib.Core.Path.{◌≡◌, sym, ap, ◌∙◌}
use mathlib.Core.Bool.{true}
use native.Mathlib.Omega.{arith}
use lib.ListN.{length}
use lib.Seq.{length-take-le}
use Rattle.stock_frame.specs.Codec.{legal, frame_of}
use Rattle.stock_frame.specs.Writing.{write_answer, written_over}
use Rattle.stock_frame.proofs.MessageLaws.{write-illegal}
use Rattle.stock_notices.specs.Notices.{five_codec, room, tidy_notice}
use Rattle.stock_notices.specs.declared.Notice.{Notice}
use Rattle.stock_notices.proofs.NoticeLaws.{from_parts}
use Rattle.stock_notices_write.proofs.WriteSteps.{illegal-long, illegal-places}
use borrow.Author.Rules.{rules}
use Rattle.stock_notices_write.proofs.write.Goals as goal

pub returns-then-n-gt60 : goal.returns-then-n-gt60
returns-then-n-gt60 c =
    let a = c.args in
    write-illegal (legal five_codec a.m) (frame_of five_codec a.m) a.buf.now (illegal-long a.m (omega arith))

pub returns-then-not-clear : goal.returns-then-not-clear
returns-then-not-clear c =
    let a = c.args in
    write-illegal (legal five_codec a.m) (frame_of five_codec a.m) a.buf.now (illegal-places a.m (sym c.clear.ensures ∙ c.if-not-clear.true))

pub slice_bounds-text-end : goal.slice_bounds-text-end
slice_bounds-text-end c =
    let a = c.args in
    let s : length a.m.text ≡ room = search rules in
    omega arith

pub slice_bounds-write_text-end : goal.slice_bounds-write_text-end
slice_bounds-write_text-end c =
    let a = c.args in
    let s : length a.m.text ≡ room = search rules in
    sym (length-take-le a.m.length a.m.text (omega arith))

pub returns : goal.returns
returns c =
    let a = c.args in
    let s : length a.m.text ≡ room = search rules in
    let z : tidy_notice a.m ≡ true = sym c.clear.ensures ∙ c.if-not-clear.false in
    let same = from_parts a.m s (omega arith) z in
    let w = c.write_text.ensures in (
      w.0 ∙ ap (λ (x : Notice). write_answer (legal five_codec x) (frame_of five_codec x) a.buf.now) same,
      w.1 ∙ ap (λ (x : Notice). written_over (legal five_codec x) (frame_of five_codec x) a.buf.now) same,
    )
