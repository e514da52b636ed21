-- The outcome of a move along a line tells the move, whatever the reading is, and four numbers tell a tally.
use Rattle.std.specs.Prelude.{None, Option, Some}
use Prim.Native.Nat.{ℕ, ◌≤◌}
use mathlib.Core.Path.{◌≡◌, refl, ap, ◌∙◌}
use mathlib.Core.Bool.{Bool, true, false, cond, not, ◌&&◌, ◌||◌}
use mathlib.Core.List.{List, [], ◌∷◌}
use native.Mathlib.Omega.{arith}
use lib.ListN.{length, drop}
use lib.Dec.{eqb, leb}
use borrow.Author.Tests.{eqb-false, leb-false, ne_eqb}
use Rattle.answers.specs.Answers.{answer_number, answer_length, answer_place}
use Rattle.answers.specs.declared.Answer.{Answer}
use Rattle.answers.specs.declared.Answer.TheVariants.{Accepted}
use Rattle.answers.specs.declared.Frame.{Frame}
use Rattle.walk.specs.Walk.{is_whole, taken, stops}
use Rattle.walk.specs.Answers.{answering}
use Rattle.walk.specs.Sound.{Sound}
use Rattle.walk.specs.Lines.{move_at, step_number}
use Rattle.walk.specs.declared.tally.Tally.{Tally}
use Rattle.walk.proofs.WalkLaws.{takes-some}
use Rattle.c_outcomes.specs.Outcomes.{answer_part, format_part, length_part, seq_part, place_from, past_outcome}
use Rattle.c_outcomes.specs.Walking.{move_outcome, tally_from, tally_numbers}
use Rattle.c_outcomes.proofs.OutcomeLaws.{Tellable, answer_in, number_in, frame-in, place_in, answer-short, past_back}
use Rattle.walk.specs.declared.rows.Row.{Row}

-- the bytes that a walk goes past where it moves; none where it stops
abbrev pub step_bytes : Option Row → ℕ
step_bytes (Some row) = row.bytes
step_bytes None = 0

-- the move that an outcome tells at a place
abbrev pub step_in : ℕ → ℕ → Option Row
step_in at x = cond (eqb (length_part x) 0) None (Some (record { at = at; bytes = length_part x; answer = answer_in x }))

-- ---- the bytes of a move
-- a number that is none of 1 to 5 moves past the whole frame
whole-number : (n : ℕ) → (1 ≤ n → n ≤ 5 → ⊥) → is_whole n ≡ true
whole-number n h = go (eqb n 0) (leb 6 n) refl refl
  where
    go : (x y : Bool) → eqb n 0 ≡ x → leb 6 n ≡ y → (x || y) ≡ true
    go true y p q = refl
    go false true p q = refl
    go false false p q = absurd (h (omega (arith, eqb-false n 0 p)) (omega (arith, leb-false 6 n q)))

module _ (says : List ℕ → Answer) (tells : (t : List ℕ) → Tellable (says t)) where
  module _ (t : List ℕ) where
    abbrev past : ℕ
    past = taken (answering says) (says t)

    -- no move goes past more than 1,024 bytes
    past-short : past ≤ 1024
    past-short = go (is_whole (answer_number (says t)))
      where
        go : (w : Bool) → cond w (answer_length (says t)) 1 ≤ 1024
        go true = answer-short (says t) (tells t)
        go false = omega arith

    -- the answer, with the bytes that it moves past, tells both
    past-told : let x = past_outcome (says t) past in (answer_in x ≡ says t) × (length_part x ≡ past)
    past-told =
        past_back (says t) (tells t) past (omega (arith, past-short))
        (λ h. ap (λ (w : Bool). cond w (answer_length (says t)) 1) (whole-number (answer_number (says t)) h))

  -- ---- moves
  module _ (longest : ℕ) (sound : Sound (answering says) longest) (closed : Bool) (at : ℕ) (line : List ℕ) where
    abbrev from : List ℕ
    from = drop at line

    -- the move at a place, where the walk stops and where it does not
    abbrev step : Bool → Option Row
    step s = cond s None (Some (record { at = at; bytes = past from; answer = says from }))

    -- a move's outcome tells it at its place: that the walk stops, or the answer with the frame's format, length and number, and the bytes
    pub move-back : step_in at (move_outcome (move_at says closed at line)) ≡ move_at says closed at line
    move-back = go (stops (answering says) closed from)
      where
        go : (s : Bool) → step_in at (move_outcome (step s)) ≡ step s
        go true = refl
        go false =
            let p = past-told from in
            let some = takes-some (answering says) longest sound from in
            (λ i. cond (eqb (p.1 i) 0) None (Some (record { at = at; bytes = p.1 i; answer = p.0 i })))
            ∙ ap (λ (z : Bool). cond z None (step false)) (ne_eqb (past from) 0 (λ z. omega (arith, z, some)))

    -- it has the answer's number, and the bytes that the move goes past
    pub move-told : (answer_part (move_outcome (move_at says closed at line)) ≡ step_number (move_at says closed at line))
        × (length_part (move_outcome (move_at says closed at line)) ≡ step_bytes (move_at says closed at line))
    move-told = go (stops (answering says) closed from)
      where
        go : (s : Bool) → (answer_part (move_outcome (step s)) ≡ step_number (step s)) × (length_part (move_outcome (step s)) ≡ step_bytes (step s))
        go true = (refl, refl)
        go false = let p = past-told from in (number_in (past_outcome (says from) (past from)) (says from) p.0, p.1)

    -- past an accepted frame it has the frame's format, its length and its number
    pub accepted-moved : (f : Frame) → says from ≡ Accepted f → let x = move_outcome (move_at says closed at line) in
        (format_part x ≡ f.format) × (length_part x ≡ f.length) × (seq_part x ≡ f.seq)
    accepted-moved f e =
        let moves : stops (answering says) closed from ≡ false = ap (λ (a : Answer). eqb (answer_number a) 2 && (not closed || eqb (length from) 0)) e in
        let same : move_outcome (move_at says closed at line) ≡ past_outcome (says from) (past from) = ap (λ (s : Bool). move_outcome (step s)) moves in
        frame-in (move_outcome (move_at says closed at line)) f (ap answer_in same ∙ (past-told from).0 ∙ e)

    -- past a refusal it has the place of the bad digit that it tells, or none
    pub place-moved : (answer_number (says from) ≡ 0 → ⊥) → stops (answering says) closed from ≡ false
        → place_from (seq_part (move_outcome (move_at says closed at line))) ≡ answer_place (says from)
    place-moved h moves =
        let same : move_outcome (move_at says closed at line) ≡ past_outcome (says from) (past from) = ap (λ (s : Bool). move_outcome (step s)) moves in
        place_in (move_outcome (move_at says closed at line)) (says from) (ap answer_in same ∙ (past-told from).0) h

-- ---- tallies
-- a tally's numbers tell it
pub tally-back : (t : Tally) → tally_from (tally_numbers t) ≡ t
tally-back t = refl

-- and any four numbers are those of the tally that they tell
pub numbers-back : (a r s w : ℕ) → tally_numbers (tally_from (a ∷ r ∷ s ∷ w ∷ [])) ≡ a ∷ r ∷ s ∷ w ∷ []
numbers-back a r s w = refl
