-- The numbers and bytes of an index value tell it, and the outcome of writing one tells the answer.
use Rattle.std.specs.Prelude.{Ok}
use Prim.Native.Nat.{ℕ, ◌≤◌, ◌<◌}
use mathlib.Core.Path.{◌≡◌, sym, ap, ◌∙◌}
use mathlib.Core.Bool.{true}
use mathlib.Core.List.{List}
use native.Mathlib.Nat.{mod-eq_of_lt}
use native.Mathlib.Omega.{arith}
use lib.ListN.{length, get_or}
use lib.Dec.{eqb}
use Rattle.digits.proofs.Bools.{and_left, and_right}
use Rattle.answers.specs.Answers.{written_number}
use Rattle.answers.specs.declared.Frame.{Frame}
use Rattle.answers.specs.declared.Answer.TheVariants.{Accepted}
use Rattle.frame.specs.Header.{own, body, front}
use Rattle.frame.specs.Codec.{Reads, legal, frame_of}
use Rattle.frame.specs.Writing.{write_answer}
use Rattle.frame.proofs.CodecLaws.{legal-most, length-frame_of}
use Rattle.layout.specs.Checks.{first_fail}
use Rattle.exchange.specs.Reading.{checks_of, place_of, frame_at}
use Rattle.exchange.proofs.NumberLaws.{named-accepted}
use Rattle.derivatives_frame.specs.Outline.{header, kind}
use Rattle.derivatives_index.specs.Index.{known, version_of, body_length, index_codec, ShapedIndex}
use Rattle.derivatives_index.specs.declared.index.Index.{Index}
use Rattle.derivatives_index.proofs.IndexLaws.{contract-values, two-lengths, index-lawful}
use Rattle.derivatives_reading.specs.Reading.{derivatives, is_index, answer_of, index_in}
use Rattle.derivatives_reading.proofs.ReadingLaws.{one_of_two}
use Rattle.derivatives_reading.proofs.Theorems.{index-trips}
use Rattle.c_outcomes.specs.Outcomes.{answer_part, length_part}
use Rattle.c_outcomes.proofs.OutcomeLaws.{writing-told}
use Rattle.c_index.specs.Index.{index_bytes, index_numbers, index_from, index_outcome}

-- an index value's contract, bytes and numbers are those of it alone, where the length of its contract is one byte's
pub index_back : (m : Index) → m.length < 256 → index_from m.seq m.contract (index_bytes m) (index_numbers m) ≡ m
index_back m h = ap (λ (n : ℕ). record {
  market = m.market;
  kind = m.kind;
  sent = m.sent;
  seq = m.seq;
  contract = m.contract;
  length = n;
  time = m.time;
  value = m.value;
  status = m.status;
}) (mod-eq_of_lt h)

-- ---- an index value that was read
module _ (t : List ℕ) (f : Frame) (e : answer_of t ≡ Accepted f) where
  abbrev b : List ℕ
  b = body header (own header t)

  -- what it was read from
  frame_is : frame_at derivatives t ≡ f
  unfolding answer_of
  frame_is = named-accepted (first_fail (checks_of derivatives t)) (frame_at derivatives t) (place_of derivatives (first_fail (checks_of derivatives t)) t) f e

  reads : Reads index_codec t (index_in t)
  unfolding answer_of index_in
  reads = index-trips.means t f e (ap (λ (g : Frame). is_index g.format) (sym frame_is) ∙ one_of_two (kind (own header t)))

  -- its contract has at most 8 bytes
  pub index-length : (index_in t).length ≤ 8
  index-length =
      let hs = front header (own header t) in
      let ruled = and_right (known (get_or hs 0 0) (get_or hs 1 0)) _ reads.ruled in
      let right : body_length (length b) ≡ true = and_left _ _ (and_right (eqb (get_or hs 4 0) (version_of (get_or hs 1 0))) _ ruled) in
      let same = ap (λ (m : Index). m.length) reads.meant ∙ contract-values b in
      omega (arith, same, two-lengths (length b) right)

  -- so it is what is told of it, with the frame's own number
  pub index-told : let m = index_in t in index_from f.seq m.contract (index_bytes m) (index_numbers m) ≡ m
  index-told =
      let m = index_in t in
      ap (λ (n : ℕ). index_from n m.contract (index_bytes m) (index_numbers m)) (sym (ap (λ (g : Frame). g.seq) frame_is) ∙ sym (ap (λ (x : Index). x.seq) reads.meant))
      ∙ index_back m (omega (arith, index-length))

-- the outcome of writing any index value whose contract has its room has the answer's number, and where it is done the length
pub index-written : (m : Index) → ShapedIndex m → (buf : List ℕ) → let w = write_answer (legal index_codec m) (frame_of index_codec m) buf in
    (answer_part (index_outcome m buf) ≡ written_number w) × ((n : ℕ) → w ≡ Ok n → (n ≤ 1024) × (length_part (index_outcome m buf) ≡ n))
index-written m s buf =
    writing-told (legal index_codec m) (frame_of index_codec m) buf
    (λ l. omega (arith, legal-most index_codec m l, length-frame_of index_codec ShapedIndex index-lawful m s l))
