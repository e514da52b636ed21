-- What reading and writing of the derivatives exchange promise: the laws of any exchange, of its header and of index values.
use Prim.Native.Nat.{ℕ, ◌+◌}
use mathlib.Core.Path.{◌≡◌, refl, sym, ap, ◌∙◌}
use mathlib.Core.Bool.{true}
use mathlib.Core.List.{List, [], ◌∷◌, ◌++◌}
use lib.ListN.{length, get_or}
use lib.Dec.{eqb}
use borrow.Author.Tests.{eq-eqb}
use Rattle.digits.proofs.TestLaws.{holds, all, ◌also◌, together}
use Rattle.layout.specs.Checks.{first_fail}
use Rattle.layout.proofs.CheckLaws.{none-fails, all_hold_lem}
use Rattle.answers.specs.declared.Frame.{Frame}
use Rattle.answers.specs.declared.Answer.TheVariants.{Accepted}
use Rattle.frame.specs.Header.{own, body, front}
use Rattle.frame.specs.Codec.{legal, frame_of}
use Rattle.frame.proofs.CodecLaws.{own-frame_of, front_read}
use Rattle.exchange.specs.Reading.{checks_of, place_of, frame_at}
use Rattle.exchange.specs.Trips.{Speaks, AnswerSays, Trips}
use Rattle.exchange.specs.Places.{PlaceSays}
use Rattle.exchange.proofs.NumberLaws.{named-accepted}
use Rattle.exchange.proofs.ReadingLaws.{answer-says}
use Rattle.exchange.proofs.TripLaws.{trips}
use Rattle.exchange.proofs.PlaceLaws.{place-says}
use Rattle.derivatives_frame.specs.Outline.{header, market, kind, sent, version}
use Rattle.derivatives_frame.proofs.HeaderHolds.{law}
use Rattle.derivatives_index.specs.Index.{number_of, known, version_of, body_length, timed, ruled, values_of, index_checks, index_codec, no_index, ShapedIndex}
use Rattle.derivatives_index.specs.declared.index.Index.{Index}
use Rattle.derivatives_index.proofs.IndexLaws.{index-lawful}
use Rattle.derivatives_index.proofs.FigureLaws.{length-index}
use Rattle.derivatives_reading.specs.Reading.{derivatives, is_index, answer_of, index_in}
use Rattle.derivatives_reading.specs.Told.{IndexSays}
use Rattle.derivatives_reading.proofs.ReadingLaws.{behind, one_of_two, size-cells}

-- the exchange's checks are the rules of index values
index-speaks : Speaks derivatives index_codec is_index
index-speaks = record {
  passes = λ f s g r.
      let b = body header f in
      let vs = values_of b in
      let tests = known (market f) (kind f) ∷ eqb (version f) (version_of (kind f)) ∷ body_length (length b) ∷ timed (sent f) vs ∷ ruled (kind f) vs ∷ [] in
      (none-fails (index_checks (market f) (kind f) (sent f) (version f) b) (holds tests r 0, (holds tests r 1, (holds tests r 2, (g, (holds tests r 3, (holds tests r 4, tt)))))), one_of_two (kind f));
  allows = λ f p h.
      let b = body header f in
      let vs = values_of b in
      let a = all_hold_lem (index_checks (market f) (kind f) (sent f) (version f) b) refl p in
      let tests = known (market f) (kind f) ∷ eqb (version f) (version_of (kind f)) ∷ body_length (length b) ∷ timed (sent f) vs ∷ ruled (kind f) vs ∷ [] in (
        eq-eqb _ _ (size-cells b a.1.1.0),
        a.1.1.1.0,
        together tests (a.0 also a.1.0 also a.1.1.0 also a.1.1.1.1.0 also a.1.1.1.1.1.0 also all),
      );
}

-- accepted exactly where every check of the rules' table holds; else the first that fails
pub index-answers : (t : List ℕ) → AnswerSays derivatives t
index-answers = answer-says derivatives behind

-- the message that the bytes mean, and both round trips
pub index-trips : Trips derivatives index_codec is_index ShapedIndex no_index
index-trips = trips derivatives index_codec is_index index-speaks ShapedIndex index-lawful no_index

-- the place beside an answer is the lowest bad half of what it speaks of
pub index-places : (t : List ℕ) → PlaceSays derivatives t
index-places = place-says derivatives law behind

-- what an accepted frame is called, and what reading a written index value tells
accepted-is : (t : List ℕ) (f : Frame) → answer_of t ≡ Accepted f → is_index f.format ≡ true
unfolding answer_of
accepted-is t f e =
    let n = first_fail (checks_of derivatives t) in
    let same = named-accepted n (frame_at derivatives t) (place_of derivatives n t) f e in
    ap (λ (x : Frame). is_index x.format) (sym same) ∙ one_of_two (kind (own header t))

module _ (m : Index) (s : ShapedIndex m) (l : legal index_codec m ≡ true) where
  -- the header of a written frame has the message's own numbers
  front-written : front header (frame_of index_codec m) ≡ index_codec.before m
  front-written = ap (front header) (sym (own-frame_of index_codec ShapedIndex index-lawful m s l [])) ∙ front_read index_codec ShapedIndex index-lawful m s l []

  written_is : (r : List ℕ)
      → (answer_of (frame_of index_codec m ++ r) ≡ Accepted (record { format = number_of m.kind; seq = m.seq; length = 26 + m.length }))
      × (index_in (frame_of index_codec m ++ r) ≡ m)
  unfolding answer_of index_in
  written_is r =
      let p = index-trips.read-write m s l r in
      let h = front-written in
      let long = length-index m s l in
      (p.0 ∙ (λ i. Accepted (record { format = number_of (get_or (h i) 1 0); seq = get_or (h i) 3 0; length = long i })), p.1)

pub index-says : IndexSays
index-says = record { format-is = accepted-is; read-write = written_is }
