-- A notice and the numbers in its body tell each other; so both round trips hold.
use Prim.Native.Nat.{ℕ, zero, suc, ◌+◌, ◌-◌, ◌≤◌}
use mathlib.Core.Path.{◌≡◌, refl, sym, ap, ap₂, ◌∙◌}
use mathlib.Core.Bool.{true}
use mathlib.Core.List.{List, ◌∷◌, ◌++◌}
use native.Mathlib.Omega.{arith}
use lib.ListN.{length, get_or, take, drop, replicate, length-replicate}
use lib.Seq.{length-take-le, sets-eq}
use lib.Dec.{leb, lit<, lit≤}
use borrow.Author.Tests.{leb-true}
use Rattle.digits.proofs.Bools.{and_left, and_right}
use Rattle.layout.specs.Cells.{raw, size, fits, encode}
use Rattle.stock_frame.specs.Outline.{own}
use Rattle.stock_frame.specs.Format.{values_of, ranged}
pub use Rattle.codes_times.proofs.RoomLaws.{every-zero, zeros-every, filled, length-filled, text-back, rest-tidy}
use Rattle.stock_frame.specs.Codec.{legal, frame_of}
use Rattle.layout.specs.Bytes.{bytes_over}
use Rattle.layout.proofs.PutLaws.{bytes-in}
use Rattle.layout.proofs.CellLaws.{length-encode, length-decode}
use Rattle.stock_frame.proofs.FormatLaws.{Bodied}
use Rattle.stock_frame.proofs.CodecLaws.{Reads, Lawful, legal-range, legal-tidy, read-written, written_read}
use Rattle.stock_notices.specs.Notices.{five_cells, five, room, notice_of, notice_from, notice_values, tidy_notice, five_codec, ShapedNotice}
use Rattle.stock_notices.specs.declared.Notice.{Notice}
use Rattle.stock_notices.proofs.RawLaws.{size-raws}

-- ---- the room for text
-- fewer zeros
drop-zeros : (n r : ℕ) → drop {A = ℕ} n (replicate r 0) ≡ replicate (r - n) 0
drop-zeros zero r = let e : r - 0 ≡ r = omega arith in rw e
drop-zeros (suc n) zero = let e : 0 - suc n ≡ 0 = omega arith in rw e
drop-zeros (suc n) (suc r) = let e : suc r - suc n ≡ r - n = omega arith in rw e (drop-zeros n r)

-- a text put over zeros
pub text-put : (t : List ℕ) (r : ℕ) → length t ≤ r → bytes_over t (replicate r 0) 0 ≡ t ++ replicate (r - length t) 0
text-put t r h =
    let room_for : 0 + length t ≤ length (replicate {A = ℕ} r 0) = rw length-replicate (omega arith) in
    let k : r - (0 + length t) ≡ r - length t = omega arith in
    sym (bytes-in t (replicate r 0) 0 room_for)
    ∙ sets-eq t (replicate r 0) 0 room_for
    ∙ ap (λ (x : List ℕ). t ++ x) (drop-zeros (0 + length t) r ∙ ap (λ (k : ℕ). replicate k 0) k)

-- the notice of a tidy notice's parts
pub from_parts : (m : Notice) → length m.text ≡ room → m.length ≤ room → tidy_notice m ≡ true
    → notice_from m.seq m.category (take m.length m.text) ≡ m
from_parts m s h z =
    let t = take m.length m.text in
    let n : length t ≡ m.length = length-take-le m.length m.text (omega arith) in
    ap₂ (λ (k : ℕ) (x : List ℕ). record { seq = m.seq; category = m.category; length = k; text = x }) n
    (text-put t room (omega arith) ∙ filled m.length room m.text s h z)

-- ---- the layout
-- a byte more than the text
pub size-five : (n : ℕ) → size (five_cells n) ≡ 1 + n
size-five n = omega (arith, size-raws n)

-- the range of the whole length bounds the text
pub ranged-text : (n : ℕ) → ranged five n ≡ true → (1 ≤ n) × (n ≤ 1 + room)
ranged-text n h =
    let low : 14 ≤ 13 + n = leb-true 14 (13 + n) (and_left _ _ h) in
    let high : 13 + n ≤ 74 = leb-true (13 + n) 74 (and_right (leb 14 (13 + n)) _ h) in
    (omega arith, omega arith)

-- a legal notice's text has room
pub legal-text : (m : Notice) → legal five_codec m ≡ true → m.length ≤ room
legal-text m l = omega (arith, size-five m.length, (ranged-text (size (five_cells m.length)) (legal-range five_codec m l)).1)

-- the text of a body is what follows its first byte
pub text-length : (b : List ℕ) → length (drop 1 (values_of five b)) ≡ length b - 1
text-length b = length-decode (replicate (length b - 1) raw) (drop 1 b) ∙ length-replicate (length b - 1) raw

-- and has room in a body in range
text-room : (b : List ℕ) → Bodied five b → length (drop 1 (values_of five b)) ≤ room
text-room b o = omega (arith, text-length b, (ranged-text (length b) o.within-range).1)

-- ---- a notice and its numbers tell each other
-- a written body tells its cells by its length
cells_told : (m : Notice) → fits (five_cells m.length) (notice_values m) ≡ true
    → five_cells (length (encode (five_cells m.length) (notice_values m)) - 1) ≡ five_cells m.length
cells_told m f =
    let e : length (encode (five_cells m.length) (notice_values m)) - 1 ≡ m.length =
    omega (arith, length-encode (five_cells m.length) (notice_values m) f, size-five m.length) in
    ap five_cells e

-- the numbers of a legal notice are read as the notice
message-values : (m : Notice) → ShapedNotice m → legal five_codec m ≡ true → notice_of m.seq (notice_values m) ≡ m
message-values m s l =
    let n : length (take m.length m.text) ≡ m.length = length-take-le m.length m.text (omega (arith, legal-text m l, s.text-long)) in
    let t = filled m.length room m.text s.text-long (legal-text m l) (legal-tidy five_codec m l) in
    ap₂ (λ (k : ℕ) (x : List ℕ). record { seq = m.seq; category = m.category; length = k; text = x }) n t

-- all that the round trips ask of a format
pub notices-lawful : Lawful five_codec ShapedNotice
notices-lawful = record {
  low = lit≤ tt;
  high = lit≤ tt;
  number_fits = lit< tt;
  version-fits = lit< tt;
  cells_told = λ m s f. cells_told m f;
  message-values = message-values;
  seq-message = λ n vs. refl;
  cells-message = λ n b o. ap five_cells (text-length b);
  values-message = λ n b o. ap (λ (l : List ℕ). get_or (values_of five b) 0 0 ∷ l) (text-back (drop 1 (values_of five b)) room);
  tidy-message = λ n b o. rest-tidy (drop 1 (values_of five b)) room;
  shaped-message = λ n b o. record { text-long = length-filled room (drop 1 (values_of five b)) (text-room b o) };
}

-- ---- both round trips
-- reading a written notice gives the notice, whatever follows the frame
pub read-written-notice : (m : Notice) → ShapedNotice m → legal five_codec m ≡ true → (r : List ℕ) → Reads five_codec (frame_of five_codec m ++ r) m
read-written-notice m s l r = read-written five_codec ShapedNotice notices-lawful m s l r

-- writing a read notice gives the frame's bytes
pub written-read-notice : (t : List ℕ) (m : Notice) → Reads five_codec t m → frame_of five_codec m ≡ own t
written-read-notice t m rd = written_read five_codec ShapedNotice notices-lawful t m rd
