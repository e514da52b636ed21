-- What a walk over a line promises, whatever its reading says of the bytes from a place on, and whatever messages stand beside its answers.
use Rattle.std.specs.Prelude.{ℕ, ◌+◌, ◌≤◌, ◌<◌, ◌≡◌, Bool, true, false, ◌↔◌, length, drop}
use mathlib.Core.List.{List, [], ◌∷◌, ◌++◌, map, flatten}
use Rattle.answers.specs.Answers.{answer_number, answer_values}
use Rattle.answers.specs.declared.Answer.{Answer}
use Rattle.walk.specs.Walk.{Reading, Move, taken, stops, walk, walk_from, rest_of, Each}
use Rattle.walk.specs.Answers.{answering}
use Rattle.walk.specs.Tally.{largest, tally_of}
use Rattle.walk.specs.Rows.{rows_of}
use Rattle.walk.specs.Pieces.{reach, in_pieces}
use Rattle.walk.specs.Told.{move_of, fresh, passes, next_number}
use Rattle.walk.specs.Listed.{rows_by_calls}
use Rattle.walk.specs.Lines.{move_at, step_number, step_values, next_rows}
use Rattle.walk.specs.declared.rows.Kept.{Kept}

-- of a reading that says answers, and one that says messages beside them
pub record LineSays {S : Type 0} (says : List ℕ → Answer) (sayings : Reading S) (answer_in : S → Answer) (longest : ℕ) : Type 0 where
  -- the four figures of a walk over a line add up to its length
  pub adds-up : (closed : Bool) (line : List ℕ) → let t = tally_of (answering says) closed line in t.accepted + t.refused + t.skipped + t.waiting ≡ length line
  -- each move says, at its place, what the reading says there, with the message
  pub in_place : (closed : Bool) (line : List ℕ) → Each (λ m. m.said ≡ sayings.says (drop m.at line)) (walk sayings closed line)
  -- a step has the answer number that the reading gives at its place, and a move its values
  pub step-number : (closed : Bool) (at : ℕ) (line : List ℕ) → step_number (move_at says closed at line) ≡ answer_number (says (drop at line))
  pub step-values : (closed : Bool) (at : ℕ) (line : List ℕ) → stops (answering says) closed (drop at line) ≡ false
      → step_values (move_at says closed at line) ≡ at ∷ taken (answering says) (says (drop at line)) ∷ answer_values (says (drop at line))
  -- 16 exactly: where a move up to the next row cannot be held by the place or the kept bytes
  pub sixteen-exactly : (closed : Bool) (kept : Kept) (at : ℕ) (line : List ℕ)
      → (next_number (next_rows says closed kept at line) ≡ 16) ↔ (passes (walk_from (answering says) closed kept.at (drop at line)) kept ≡ true)
  -- the walk with messages makes the same moves as the one without
  pub aside : (closed : Bool) (line : List ℕ)
      → walk (answering says) closed line ≡ map (λ (m : Move S). record { at = m.at; said = answer_in m.said; bytes = m.bytes }) (walk sayings closed line)
  -- bytes that come behind an open line take no move back, neither its place nor its answer nor its message
  pub goes_on : (closed : Bool) (line more : List ℕ)
      → walk sayings closed (line ++ more) ≡ walk sayings false line ++ walk_from sayings closed (0 + reach sayings false line) (rest_of sayings false line ++ more)
  -- fewer bytes wait than the longest frame has, and on a closed line none
  pub waits-short : (line : List ℕ) → length (rest_of (answering says) false line) < longest
  pub closed-waits : (line : List ℕ) → length (rest_of (answering says) true line) ≡ 0
  -- however a line is cut, its pieces give the rows of the whole: as a law of the walk, and call by call as a program makes the calls
  pub in-pieces : (pieces : List (List ℕ)) → in_pieces sayings 0 [] [] pieces ≡ rows_of sayings (walk sayings true (flatten pieces))
  pub by-calls : (pieces : List (List ℕ)) (n : ℕ) → length (flatten pieces) ≤ largest → length (flatten pieces) + length pieces < n
      → map move_of (rows_by_calls (answering says) n fresh [] pieces) ≡ rows_of (answering says) (walk (answering says) true (flatten pieces))
