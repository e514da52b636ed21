-- The outcome of a writing tells the answer, for each of the four formats.
use Rattle.std.specs.Prelude.{Ok}
use Prim.Native.Nat.{ℕ, ◌+◌, ◌≤◌}
use mathlib.Core.Path.{◌≡◌, refl}
use mathlib.Core.Bool.{Bool, true, false, ◌&&◌}
use mathlib.Core.List.{List}
use native.Mathlib.Omega.{arith}
use lib.ListN.{length}
use lib.Dec.{leb}
use borrow.Author.Tests.{leb-true}
use Rattle.digits.proofs.Bools.{and_right}
use Rattle.layout.specs.Cells.{size}
use Rattle.answers.specs.Answers.{written_number}
use Rattle.stock_frame.specs.Format.{around}
use Rattle.stock_frame.specs.Codec.{Codec, legal, frame_of}
use Rattle.stock_frame.specs.Writing.{write_answer}
use Rattle.stock_frame.proofs.CodecLaws.{Lawful, legal-range, length-frame_of}
use Rattle.stock_notices.specs.Notices.{five_codec, ShapedNotice}
use Rattle.stock_notices.proofs.NoticeLaws.{notices-lawful}
use Rattle.stock_quotes.specs.Quotes.{six_codec, ShapedQuote}
use Rattle.stock_quotes.proofs.QuoteLaws.{quotes-lawful}
use Rattle.stock_prices.specs.Prices.{twelve_codec, ShapedPrices}
use Rattle.stock_prices.proofs.PriceLaws.{prices-lawful}
use Rattle.stock_halts.specs.Halts.{nineteen_codec, ShapedHalt}
use Rattle.stock_halts.specs.declared.Halt.{Halt}
use Rattle.stock_halts.proofs.HaltLaws.{halts-lawful}
use Rattle.c_outcomes.specs.Outcomes.{answer_part, length_part, write_outcome}
use Rattle.c_halts.specs.Halts.{tells_halt, halt_outcome}
use Rattle.c_outcomes.proofs.OutcomeLaws.{writing-told}

-- the outcome of writing any message of a format has the answer's number, and where it is done the length, which is at most 1,024
abbrev pub WritingTold : {M : Type 0} → Codec M → (M → Type 0) → Type 0
WritingTold {M} C Shaped =
    (m : M) → Shaped m → (buf : List ℕ) → let w = write_answer (legal C m) (frame_of C m) buf in
    (answer_part (write_outcome w) ≡ written_number w) × ((n : ℕ) → w ≡ Ok n → (n ≤ 1024) × (length_part (write_outcome w) ≡ n))

message-told : {M : Type 0} (C : Codec M) (Shaped : M → Type 0) → Lawful C Shaped → WritingTold C Shaped
message-told C Shaped law m s buf = writing-told (legal C m) (frame_of C m) buf short
  where
    short : legal C m ≡ true → length (frame_of C m) ≤ 1024
    short l =
        let most = leb-true (around + size (C.cells m)) C.form.most (and_right (leb C.form.least (around + size (C.cells m))) _ (legal-range C m l)) in
        omega (arith, law.high, length-frame_of C Shaped law m s l, most)

-- it holds of each of the four formats
pub notice-written : WritingTold five_codec ShapedNotice
notice-written = message-told five_codec ShapedNotice notices-lawful

pub quote-written : WritingTold six_codec ShapedQuote
quote-written = message-told six_codec ShapedQuote quotes-lawful

pub prices-written : WritingTold twelve_codec ShapedPrices
prices-written = message-told twelve_codec ShapedPrices prices-lawful

pub halt-written : WritingTold nineteen_codec ShapedHalt
halt-written = message-told nineteen_codec ShapedHalt halts-lawful

-- and of a halt that four numbers tell, or do not
pub halt-numbers-written : (ns : List ℕ) (h : Halt) → ShapedHalt h → (buf : List ℕ)
    → let w = write_answer (tells_halt ns && legal nineteen_codec h) (frame_of nineteen_codec h) buf in
    (answer_part (halt_outcome ns h buf) ≡ written_number w) × ((n : ℕ) → w ≡ Ok n → (n ≤ 1024) × (length_part (halt_outcome ns h buf) ≡ n))
halt-numbers-written ns h s buf = go (tells_halt ns)
  where
    go : (t : Bool) → let w = write_answer (t && legal nineteen_codec h) (frame_of nineteen_codec h) buf in
        (answer_part (write_outcome w) ≡ written_number w) × ((n : ℕ) → w ≡ Ok n → (n ≤ 1024) × (length_part (write_outcome w) ≡ n))
    go true = halt-written h s buf
    go false = (refl, λ n e. let z : ◌≡◌ {A = ℕ} 0 1 = cc in absurd (omega arith))
