-- An exchange: behind its header, the checks on a frame's own bytes and what an accepted frame is called; so what a reading of its frames
-- answers.
use Rattle.std.specs.Prelude.{ℕ, ◌*◌, ◌≤◌, ◌≡◌, Bool, true, false, cond, ◌&&◌, List, [], ◌∷◌, ◌++◌, length, eqb, leb, Option}
use Rattle.layout.specs.Cells.{Cell, size, good_cells}
use Rattle.layout.specs.Places.{first_bad}
use Rattle.layout.specs.Checks.{Check, must, first_fail}
use Rattle.answers.specs.Answers.{named}
use Rattle.answers.specs.declared.Frame.{Frame}
use Rattle.answers.specs.declared.Answer.{Answer}
use Rattle.frame.specs.Header.{Header, length_of, own, body, start, outline_checks, outline_place}
use Rattle.frame.specs.Figures.{at_most}

pub record Exchange (H : Header) : Type 0 where
  -- of a frame's own bytes: checks 7 to 13 in their order, the cells of its body, and the format and the number that an acceptance tells
  pub checks : List ℕ → List Check
  pub cells : List ℕ → List Cell
  pub format : List ℕ → ℕ
  pub seq : List ℕ → ℕ

-- every check's number is at least k
abbrev pub at_least : ℕ → List Check → Bool
at_least k [] = true
at_least k (must n t ∷ checks) = leb k n && at_least k checks

-- what an exchange has to show: its own checks answer 7 to 13 only, and 11 where the cells of the body have a bad digit
pub record Behind {H : Header} (E : Exchange H) : Type 0 where
  pub from-seven : (f : List ℕ) → at_least 7 (E.checks f) ≡ true
  pub to-thirteen : (f : List ℕ) → at_most 13 (E.checks f) ≡ true
  pub bad-digit : (f : List ℕ) → first_fail (E.checks f) ≡ 11 → (good_cells (E.cells f) (body H f) ≡ false) × (size (E.cells f) ≤ length (body H f))

-- the rules' table
abbrev pub checks_of : {H : Header} → Exchange H → List ℕ → List Check
checks_of {H} E t = outline_checks H t ++ E.checks (own H t)

-- where the bad digit is that an answer speaks of, in halves from the frame's first byte: beside 11 in the packed fields of the body,
-- beside 3 and 6 in the outline; beside no other
abbrev pub place_of : {H : Header} → Exchange H → ℕ → List ℕ → Option ℕ
place_of {H} E n t =
    let f = own H t in
    cond (eqb n 11) (first_bad (E.cells f) (2 * start H) (body H f)) (outline_place H n t)

-- what an acceptance tells
abbrev pub frame_at : {H : Header} → Exchange H → List ℕ → Frame
frame_at {H} E t = let f = own H t in record { format = E.format f; seq = E.seq f; length = length_of H t }

-- the answer: the first check that fails, with the place of the bad digit that it speaks of; or acceptance
abbrev pub answer_by : {H : Header} → Exchange H → List ℕ → Answer
answer_by E t = let n = first_fail (checks_of E t) in named n (frame_at E t) (place_of E n t)
