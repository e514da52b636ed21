-- The tally: a line's bytes in accepted frames, in refused frames, skipped and waiting.
use Rattle.std.specs.Prelude.{ℕ, ◌+◌, min, Bool, cond, not, ◌&&◌, List, [], ◌∷◌, length, eqb, leb}
use Rattle.answers.specs.Answers.{answer_number}
use Rattle.answers.specs.declared.Answer.{Answer}
use Rattle.walk.specs.Walk.{Reading, Move, is_whole, walk, rest_of}
use Rattle.walk.specs.declared.tally.Tally.{Tally}
use Rattle.walk.specs.declared.tally.Tallied.{Tallied}

-- what becomes of the bytes of a move, by the answer number
abbrev pub is_accepted : ℕ → Bool
is_accepted n = eqb n 0

abbrev pub is_refused : ℕ → Bool
is_refused n = leb 6 n

abbrev pub is_skipped : ℕ → Bool
is_skipped n = not (is_whole n)

-- the bytes of the moves whose numbers are of a kind
abbrev pub bytes_of : {A : Type 0} → Reading A → (ℕ → Bool) → List (Move A) → ℕ
bytes_of R kind [] = 0
bytes_of R kind (m ∷ ms) = cond (kind (R.number m.said)) m.bytes 0 + bytes_of R kind ms

-- the figures of some moves, with the bytes that wait behind them
abbrev pub figures_of : {A : Type 0} → Reading A → List (Move A) → ℕ → Tally
figures_of R ms waiting = record {
  accepted = bytes_of R is_accepted ms;
  refused = bytes_of R is_refused ms;
  skipped = bytes_of R is_skipped ms;
  waiting = waiting;
}

-- the figures of one walk over a line
unfoldable pub tally_of : {A : Type 0} → Reading A → Bool → List ℕ → Tally
tally_of R closed line = figures_of R (walk R closed line) (length (rest_of R closed line))

-- figures with nothing that waits
abbrev pub figures_only : ℕ → ℕ → ℕ → Tally
figures_only a r s = record { accepted = a; refused = r; skipped = s; waiting = 0 }

-- a tally of no bytes
abbrev pub no_bytes : Tally
no_bytes = figures_only 0 0 0

-- the largest number that a figure can hold
abbrev pub largest : ℕ
largest = 18446744073709551615

-- none of the first three figures passes it, grown by a line's length
abbrev pub has_room : Tally → ℕ → Bool
has_room t n = leb (t.accepted + n) largest && (leb (t.refused + n) largest && leb (t.skipped + n) largest)

-- the first three figures grow by a walk's, the waiting figure is replaced by the walk's
abbrev pub moved_on : Tally → Tally → Tally
moved_on t w = record {
  accepted = t.accepted + w.accepted;
  refused = t.refused + w.refused;
  skipped = t.skipped + w.skipped;
  waiting = w.waiting;
}

-- a lent tally behind a walk: moved on by its figures, or 16 and as it came
abbrev pub tallied_of : {A : Type 0} → Reading A → Tally → Bool → List ℕ → Tallied
tallied_of R t closed line =
    cond (has_room t (length line)) (record { tally = moved_on t (tally_of R closed line); answer = 0 }) (record { tally = t; answer = 16 })

-- as far as a figure can hold it
abbrev pub capped : Tally → Tally
capped t = record {
  accepted = min t.accepted largest;
  refused = min t.refused largest;
  skipped = min t.skipped largest;
  waiting = t.waiting;
}

-- the figures of one row
abbrev pub row_figures : Answer → ℕ → Tally
row_figures a n =
    let x = answer_number a in
    figures_only (cond (is_accepted x) n 0) (cond (is_refused x) n 0) (cond (is_skipped x) n 0)
