-- `write_text` meets its contract: a refusal leaves the buffer; else the body is placed and the frame closed around it.
use mathlib.Core.Path.{◌≡◌, sym, ◌∙◌}
use mathlib.Core.Bool.{true}
use mathlib.Core.List.{[], ◌∷◌}
use native.Mathlib.Omega.{arith}
use lib.ListN.{length-set}
use Rattle.stock_frame.specs.Codec.{legal, frame_of}
use Rattle.stock_frame.proofs.MessageLaws.{write-illegal}
use Rattle.stock_notices.specs.Notices.{five_codec, five_ruled, notice_from}
use Rattle.stock_notices_write.proofs.WriteSteps.{illegal-seq, illegal-long, illegal-category, known_small, notice-written, notice-room}
use Rattle.stock_notices_write.proofs.write_text.Goals as goal

pub returns-then-seq-gt99999999 : goal.returns-then-seq-gt99999999
returns-then-seq-gt99999999 c =
    let a = c.args in
    let m = notice_from a.seq a.category a.text.now in
    write-illegal (legal five_codec m) (frame_of five_codec m) a.buf.now (illegal-seq m (omega arith))

pub returns-then-length-gt60 : goal.returns-then-length-gt60
returns-then-length-gt60 c =
    let a = c.args in
    let m = notice_from a.seq a.category a.text.now in
    write-illegal (legal five_codec m) (frame_of five_codec m) a.buf.now (illegal-long m (omega arith))

pub returns-then-not-known : goal.returns-then-not-known
returns-then-not-known c =
    let a = c.args in
    let m = notice_from a.seq a.category a.text.now in
    write-illegal (legal five_codec m) (frame_of five_codec m) a.buf.now (illegal-category m (sym c.known.ensures ∙ c.if-not-known.true))

pub returns-then-buf-length : goal.returns-then-buf-length
returns-then-buf-length c =
    let a = c.args in
    let e : five_ruled (a.category ∷ []) ≡ true = sym c.known.ensures ∙ c.if-not-known.false in
    notice-room a.seq a.category a.text.now (omega arith) (omega arith) e a.buf.now (omega arith)

pub overflow_mul-buf : goal.overflow_mul-buf
overflow_mul-buf c =
    let a = c.args in
    let e : five_ruled (a.category ∷ []) ≡ true = sym c.known.ensures ∙ c.if-not-known.false in
    omega (arith, known_small a.category e)

pub overflow_add-buf : goal.overflow_add-buf
overflow_add-buf c =
    let a = c.args in
    let e : five_ruled (a.category ∷ []) ≡ true = sym c.known.ensures ∙ c.if-not-known.false in
    omega (arith, known_small a.category e)

pub shape_of-buf : goal.shape_of-buf
shape_of-buf c = c.buf-2-1.given ∙ c.buf-1.given ∙ simp length-set

pub returns : goal.returns
returns c =
    let a = c.args in
    let e : five_ruled (a.category ∷ []) ≡ true = sym c.known.ensures ∙ c.if-not-known.false in
    notice-written a.seq a.category a.text.now (omega arith) (omega arith) e a.buf.now c.put_bytes.new.buf
    c.close.new.buf c.close.result (omega arith) c.put_bytes.ensures c.close.ensures
