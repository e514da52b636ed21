-- Writing a notice: what each test tells of its legality, and the bytes of its body.
use Rattle.std.specs.Prelude.{Err, Result}
use Prim.Native.Nat.{ℕ, ◌+◌, ◌-◌, ◌/◌, ◌%◌, ◌^◌, ◌≤◌, ◌<◌}
use mathlib.Core.Path.{◌≡◌, refl, sym, ap, ap₂, ◌∙◌}
use mathlib.Core.Bool.{Bool, true, false}
use mathlib.Core.List.{List, [], ◌∷◌, ◌++◌}
use native.Mathlib.Omega.{arith}
use lib.ListN.{length, take, drop, set, replicate, length-set}
use lib.Seq.{take-length, sets}
use lib.Dec.{eqb, ltb}
use borrow.Author.Tests.{ne_eqb, ltb-true, ltb-false, lt-ltb, le-leb}
use Rattle.digits.specs.Packed.{byte_of}
use Rattle.digits.proofs.Bools.{and_both, no_false}
use Rattle.layout.specs.Cells.{size, encode}
use Rattle.stock_frame.specs.Format.{around}
use Rattle.codes_times.specs.Times.{every}
use Rattle.stock_frame.specs.Codec.{legal, frame_of}
use Rattle.stock_frame.specs.Writing.{write_answer, written_over, close_answer, closed_over}
use Rattle.layout.specs.Bytes.{bytes_over}
use Rattle.stock_frame.proofs.CodecLaws.{legal-seq, legal-ruled, legal-tidy}
use Rattle.stock_notices.specs.Notices.{five_cells, five_ruled, room, notice_from, notice_values, tidy_notice, five_codec, ShapedNotice}
use Rattle.stock_notices.specs.declared.Notice.{Notice}
use Rattle.stock_notices.proofs.RawLaws.{fits-raws, encode-raws}
use Rattle.layout.proofs.PutLaws.{bytes-in}
use Rattle.stock_frame.proofs.MessageLaws.{message-short, message-closed}
use Rattle.stock_notices.proofs.NoticeLaws.{size-five, legal-text, notices-lawful, text-put, length-filled, text-back, rest-tidy}
use Rattle.answers.specs.declared.WriteError.{WriteError}
use Rattle.answers.specs.declared.WriteError.TheVariants.{NoRoom}

-- ---- what each test tells of a notice
module _ (m : Notice) where
  -- one that cannot be legal is not
  illegal : (legal five_codec m ≡ true → ⊥) → legal five_codec m ≡ false
  illegal refuted = go (legal five_codec m) refl
    where
      go : (t : Bool) → legal five_codec m ≡ t → legal five_codec m ≡ false
      go true e = absurd (refuted e)
      go false e = e

  -- too high a number
  pub illegal-seq : 99999999 < m.seq → legal five_codec m ≡ false
  illegal-seq h = illegal (λ l. omega (arith, legal-seq five_codec m l))

  -- too long a text
  pub illegal-long : room < m.length → legal five_codec m ≡ false
  illegal-long h = illegal (λ l. omega (arith, legal-text m l))

  -- a category that is none of the four
  pub illegal-category : five_ruled (m.category ∷ []) ≡ false → legal five_codec m ≡ false
  illegal-category e = illegal (λ l. no_false (sym e ∙ legal-ruled five_codec m l))

  -- an unused place that is not zero
  pub illegal-places : tidy_notice m ≡ false → legal five_codec m ≡ false
  illegal-places e = illegal (λ l. no_false (sym e ∙ legal-tidy five_codec m l))

-- a category that is one of the four has two digits
pub known_small : (c : ℕ) → five_ruled (c ∷ []) ≡ true → c < 100
known_small c h = go (ltb c 100) refl
  where
    go : (t : Bool) → ltb c 100 ≡ t → c < 100
    go true e = ltb-true c 100 e
    go false e =
        let k : 100 ≤ c = ltb-false c 100 e in
        let z : five_ruled (c ∷ []) ≡ false =
        rw (ne_eqb c 0 (λ q. omega arith), ne_eqb c 9 (λ q. omega arith), ne_eqb c 90 (λ q. omega arith), ne_eqb c 99 (λ q. omega arith)) in
        absurd (no_false (sym z ∙ h))

-- ---- the notice of a number, a category and a text that pass the tests
module _ (seq category : ℕ) (text : List ℕ) (h : seq ≤ 99999999) (k : length text ≤ room) (e : five_ruled (category ∷ []) ≡ true) where
  abbrev m : Notice
  m = notice_from seq category text

  abbrev n : ℕ
  n = length text

  -- zeros stand behind the text
  over_zeros : m.text ≡ text ++ replicate (room - n) 0
  over_zeros = text-put text room k

  -- and fill its room
  shaped : ShapedNotice m
  shaped = record { text-long = ap length over_zeros ∙ length-filled room text k }

  -- the text is the one given
  text-kept : take n m.text ≡ text
  text-kept = ap (take n) over_zeros ∙ text-back text room

  -- the length of its frame
  whole-notice : 14 + n ≡ around + size (five_cells n)
  whole-notice = omega (arith, size-five n)

  -- it breaks no rule
  lawful : legal five_codec m ≡ true
  lawful =
      and_both (lt-ltb seq (10 ^ 8) (omega arith))
      (and_both (and_both (le-leb 14 (around + size (five_cells n)) (omega (arith, whole-notice))) (le-leb (around + size (five_cells n)) 74 (omega (arith, whole-notice))))
      (and_both (and_both (lt-ltb category 100 (known_small category e)) (fits-raws n (take n m.text) (ap length text-kept)))
      (and_both e (ap (λ (x : List ℕ). every (eqb 0) (drop n x)) over_zeros ∙ rest-tidy text room))))

  -- its body stands at its place where the text is put behind the category
  body-placed : (buf : List ℕ) → 14 + n ≤ length buf
      → bytes_over text (set buf 10 (byte_of category)) 11 ≡ sets buf 10 (encode (five_cells n) (notice_values m))
  body-placed buf fit =
      let c : category / 1 % 100 ≡ category = omega (arith, known_small category e) in
      sym (bytes-in text (set buf 10 (byte_of category)) 11 (rw length-set (omega arith)))
      ∙ ap₂ (λ (x : ℕ) (t : List ℕ). sets (set buf 10 (byte_of x)) 11 t) (sym c)
      (sym (encode-raws n (take n m.text) ∙ ap (take n) text-kept ∙ take-length text))

  -- the frame closed around it
  pub notice-written : (buf t u : List ℕ) (r : Result ℕ WriteError) → 14 + n ≤ length buf
      → t ≡ bytes_over text (set buf 10 (byte_of category)) 11
      → (r ≡ close_answer 5 1 seq (14 + n) t) × (u ≡ closed_over 5 1 seq (14 + n) t)
      → (r ≡ write_answer (legal five_codec m) (frame_of five_codec m) buf) × (u ≡ written_over (legal five_codec m) (frame_of five_codec m) buf)
  notice-written buf t u r fit p q =
      let w = whole-notice in
      message-closed five_codec ShapedNotice notices-lawful m shaped lawful buf t u r (omega (arith, w)) (p ∙ body-placed buf fit)
      (q.0 ∙ ap (λ (x : ℕ). close_answer 5 1 seq x t) w) (q.1 ∙ ap (λ (x : ℕ). closed_over 5 1 seq x t) w)

  -- no room for it
  pub notice-room : (buf : List ℕ) → length buf < 14 + n
      → (Err NoRoom ≡ write_answer (legal five_codec m) (frame_of five_codec m) buf) × (buf ≡ written_over (legal five_codec m) (frame_of five_codec m) buf)
  notice-room buf short = message-short five_codec ShapedNotice notices-lawful m shaped lawful buf (omega (arith, whole-notice))
