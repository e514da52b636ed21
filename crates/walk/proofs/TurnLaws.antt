-- The turns of the loops over a line, in the words of the code: the answer at a place, and how far it moves the walk. They are
-- said of any line's reading.
use Rattle.std.specs.Prelude.{None, Some, Ok, Err, Result}
use Prim.Native.Nat.{ℕ, suc, ◌+◌, ◌-◌, ◌≤◌, ◌<◌}
use mathlib.Core.Path.{◌≡◌, refl, sym, ap, ◌∙◌, subst}
use mathlib.Core.Bool.{Bool, true, false, cond}
use mathlib.Core.List.{List, [], ◌∷◌}
use native.Mathlib.Omega.{arith}
use lib.ListN.{length, drop, length-drop}
use lib.Seq.{drop-drop}
use lib.Dec.{eqb}
use borrow.Author.Tests.{eqb-false, eq-eqb, ne_eqb}
use Rattle.answers.specs.declared.Answer.{Answer}
use Rattle.answers.specs.declared.Answer.TheVariants.{NoFrame}
use Rattle.walk.specs.Walk.{Reading, walk_from}
use Rattle.walk.specs.Sound.{LineReading}
use Rattle.walk.specs.Answers.{answering, past_of}
use Rattle.walk.specs.Tally.{no_bytes, largest, moved_on, capped, row_figures, tally_of}
use Rattle.walk.specs.Noise.{noise_length}
use Rattle.walk.specs.Told.{told_of, on_told, next_of}
use Rattle.walk.specs.Lines.{move_at, stretch_of, next_rows}
use Rattle.walk.specs.declared.tally.Tally.{Tally}
use Rattle.walk.specs.declared.rows.Row.{Row}
use Rattle.walk.specs.declared.rows.Kept.{Kept}
use Rattle.walk.specs.declared.rows.Told.{Told}
use Rattle.walk.specs.declared.rows.Told.TheVariants.{Nothing, One, Two}
use Rattle.walk.specs.declared.rows.Next.{Next}
use Rattle.walk.specs.declared.rows.Next.TheVariants.{OneRow, TwoRows}
use Rattle.walk.specs.declared.rows.Next.TheVariants.{Stopped as No-row}
use Rattle.walk.specs.declared.stretch.Stretch.{Stretch}
use Rattle.walk.proofs.AnswerLaws.{past-stops, past-moves, some_left, none_left, move-within, Counting, counting-begins, counting-ends, counting-stops, counting-moves}
use Rattle.walk.proofs.NextLaws.{kept-behind, next-ends, next-stops, next-told}
use Rattle.walk.proofs.NoiseLaws.{noise-next}
use Rattle.walk.specs.declared.rows.RowsError.TheVariants.{Full}
use Rattle.walk.specs.declared.rows.RowsError.{RowsError}

-- what is counted up to a place, and what is still to give from one on
abbrev pub Counted : LineReading → Bool → List ℕ → Tally → ℕ → Type 0
Counted L c line t at = Counting L.says L.longest L.sound c line t at

abbrev pub to_give : LineReading → Bool → List ℕ → Kept → ℕ → Result Next RowsError
to_give L c line k at = next_rows L.says c k at line

-- ---- at a line's end
module _ (L : LineReading) (c : Bool) (line : List ℕ) where
  pub ends : (at : ℕ) → length line ≤ at → None ≡ move_at L.says c at line
  ends at h = rw (none_left L.says L.longest L.sound c line at h)

  pub counted-begins : (t : Tally) → t ≡ no_bytes → Counted L c line t 0
  counted-begins = counting-begins L.says L.longest L.sound c line

  pub counted-ends : (t : Tally) (at : ℕ) → Counted L c line t at → length line ≤ at → t ≡ tally_of (answering L.says) c line
  counted-ends = counting-ends L.says L.longest L.sound c line

  pub gives-no-more : (k : Kept) (at : ℕ) → length line ≤ at → Ok (No-row k at) ≡ to_give L c line k at
  gives-no-more = next-ends L.says L.longest L.sound c line

-- ---- at a place of it
-- one turn: bytes are left, the answer is the reading's there, and the move is the answer's
pub record Turn (L : LineReading) (c : Bool) (line : List ℕ) (at : ℕ) (a : Answer) (n : ℕ) : Type 0 where
  pub left_over : at < length line
  pub says : a ≡ L.says (drop at line)
  pub moves : n ≡ past_of c a

module _ {L : LineReading} {c : Bool} {line : List ℕ} {at : ℕ} {a : Answer} {n : ℕ} (T : Turn L c line at a n) where
  abbrev h : at < length line
  h = T.left_over

  moves-by : n ≡ past_of c (L.says (drop at line))
  moves-by = T.moves ∙ ap (past_of c) T.says

  some : 1 ≤ length (drop at line)
  some = some_left L.says L.longest L.sound c line at h

  pub stays_within : (n ≡ 0 → ⊥) → at + n ≤ length line
  stays_within e =
      subst (λ (m : ℕ). at + m ≤ length line) (sym moves-by)
      (move-within L.says L.longest L.sound c line at h (λ z. e (moves-by ∙ z)))

  pub stops-here : n ≡ 0 → None ≡ move_at L.says c at line
  stops-here e = rw (past-stops L.says L.longest L.sound c (drop at line) some (sym moves-by ∙ e))

  pub moves-here : (n ≡ 0 → ⊥) → Some (record { at = at; bytes = n; answer = a }) ≡ move_at L.says c at line
  moves-here e =
      let m = past-moves L.says L.longest L.sound c (drop at line) some (λ z. e (moves-by ∙ z)) in
      rw m.0 (λ i. Some (record { at = at; bytes = (moves-by ∙ m.1) i; answer = T.says i }))

  module _ (t : Tally) (k : Counted L c line t at) where
    pub counted-stops : n ≡ 0 → record { accepted = t.accepted; refused = t.refused; skipped = t.skipped; waiting = length line - at } ≡ tally_of (answering L.says) c line
    counted-stops e = counting-stops L.says L.longest L.sound c line t at k h (sym moves-by ∙ e)

    pub counted-moves : length line ≤ largest → (n ≡ 0 → ⊥) → (u : Tally) → u ≡ capped (moved_on t (row_figures a n)) → Counted L c line u (at + n)
    counted-moves most e u q =
        subst (λ (m : ℕ). Counted L c line u (at + m)) (sym moves-by)
        (counting-moves L.says L.longest L.sound c line t at k h most (λ z. e (moves-by ∙ z)) u
        (q ∙ (λ i. capped (moved_on t (row_figures (T.says i) (moves-by i))))))

-- ---- rows
-- a stretch by its steps
module _ (says : List ℕ → Answer) (c : Bool) (line : List ℕ) (at n : ℕ) (is : n ≡ noise_length (drop at line)) where
  pub stretch-noise : 0 < n → record { answer = NoFrame 1 None; bytes = n } ≡ stretch_of says c (drop at line)
  stretch-noise h = rw (ne_eqb (noise_length (drop at line)) 0 (λ e. omega (arith, is, e))) (λ i. record { answer = NoFrame 1 None; bytes = is i })

  pub stretch-read : n ≤ 0 → (a : Answer) (m : ℕ) → a ≡ says (drop at line) → m ≡ past_of c a → record { answer = a; bytes = m } ≡ stretch_of says c (drop at line)
  stretch-read h a m p q =
      rw (eq-eqb (noise_length (drop at line)) 0 (omega (arith, is)))
      (λ i. record { answer = p i; bytes = (q ∙ ap (past_of c) p) i })

noise-within : (t : List ℕ) → noise_length t ≤ length t
noise-within [] = omega arith
noise-within (b ∷ bs) = go (eqb b 27) (noise-within bs)
  where
    go : (x : Bool) → noise_length bs ≤ length bs → cond x 0 (suc (noise_length bs)) ≤ suc (length bs)
    go true h = omega arith
    go false h = omega arith

-- one turn of them: bytes are left, and a stretch is met
pub record Met (L : LineReading) (c : Bool) (line : List ℕ) (at : ℕ) (s : Stretch) : Type 0 where
  pub left_over : at < length line
  pub is : s ≡ stretch_of L.says c (drop at line)

module _ {L : LineReading} {c : Bool} {line : List ℕ} {at : ℕ} {s : Stretch} (M : Met L c line at s) where
  abbrev R : Reading Answer
  R = answering L.says

  abbrev bytes : List ℕ
  bytes = drop at line

  -- a stretch is a reading's turn, or bytes before the next 27
  pub record Noise : Type 0 where
    pub answers_one : s.answer ≡ NoFrame 1 None
    pub is-noise : s.bytes ≡ noise_length bytes
    pub some : 1 ≤ s.bytes

  by_kind : (P : Type 0) → (Turn L c line at s.answer s.bytes → P) → (Noise → P) → P
  by_kind P turn noise = go (eqb (noise_length bytes) 0) refl M.is
    where
      go : (x : Bool) → eqb (noise_length bytes) 0 ≡ x
          → s ≡ cond x (record { answer = L.says bytes; bytes = past_of c (L.says bytes) }) (record { answer = NoFrame 1 None; bytes = noise_length bytes }) → P
      go true e q =
          let says = ap (λ (y : Stretch). y.answer) q in
          turn (record { left_over = M.left_over; says = says; moves = ap (λ (y : Stretch). y.bytes) q ∙ sym (ap (past_of c) says) })
      go false e q =
          let long = ap (λ (y : Stretch). y.bytes) q in
          noise (record { answers_one = ap (λ (y : Stretch). y.answer) q; is-noise = long; some = omega (arith, long, eqb-false (noise_length bytes) 0 e) })

  pub met-within : (s.bytes ≡ 0 → ⊥) → at + s.bytes ≤ length line
  met-within e =
      by_kind (at + s.bytes ≤ length line) (λ T. stays_within T e)
      (λ N. omega (arith, N.is-noise, noise-within bytes, length-drop at line, M.left_over))

  pub met-stops : s.bytes ≡ 0 → (k : Kept) → Ok (No-row k at) ≡ to_give L c line k at
  met-stops e k =
      by_kind (Ok (No-row k at) ≡ to_give L c line k at)
      (λ T. next-stops L.says L.longest L.sound c line k at M.left_over (sym (moves-by T) ∙ e))
      (λ N. absurd (omega (arith, N.some, e)))

  -- what follows it
  abbrev Tells : Kept → Type 0
  Tells k = to_give L c line k at ≡ on_told (told_of k s.answer s.bytes) (at + s.bytes) (next_of (walk_from R c (k.at + s.bytes) (drop (at + s.bytes) line)))

  met-tells : (s.bytes ≡ 0 → ⊥) → (k : Kept) → Tells k
  met-tells e k = by_kind (Tells k) turn noise
    where
      turn : Turn L c line at s.answer s.bytes → Tells k
      turn T =
          next-told L.says L.longest L.sound c line k at M.left_over (λ z. e (moves-by T ∙ z))
          ∙ sym (λ i. on_told (told_of k (T.says i) (moves-by T i)) (at + moves-by T i) (next_of (walk_from R c (k.at + moves-by T i) (drop (at + moves-by T i) line))))

      noise : Noise → Tells k
      noise N =
          noise-next L.says L.longest L.sound L.quiet c s.bytes bytes k at N.some (omega (arith, N.is-noise))
          ∙ (λ i. on_told (told_of k (sym N.answers_one i) s.bytes) (at + s.bytes) (next_of (walk_from R c (k.at + s.bytes) (drop-drop s.bytes at line i))))

  module _ (k : Kept) (e : s.bytes ≡ 0 → ⊥) (x : Result Told RowsError) (q : x ≡ told_of k s.answer s.bytes) where
    abbrev further : Kept → ℕ → Result Next RowsError
    further = next_of (walk_from R c (k.at + s.bytes) (drop (at + s.bytes) line))

    gives : (y : Result Told RowsError) → x ≡ y → on_told y (at + s.bytes) further ≡ to_give L c line k at
    gives y p = ap (λ (u : Result Told RowsError). on_told u (at + s.bytes) further) (sym p ∙ q) ∙ sym (met-tells e k)

    pub goes_on : (j : Kept) → x ≡ Ok (Nothing j) → to_give L c line j (at + s.bytes) ≡ to_give L c line k at
    goes_on j p =
        ap (λ (place : ℕ). next_of (walk_from R c place (drop (at + s.bytes) line)) j (at + s.bytes)) (kept-behind k s.answer s.bytes j (sym q ∙ p))
        ∙ gives (Ok (Nothing j)) p

    pub gives_one : (r : Row) (j : Kept) → x ≡ Ok (One r j) → Ok (OneRow r j (at + s.bytes)) ≡ to_give L c line k at
    gives_one r j p = gives (Ok (One r j)) p

    pub gives-two : (r r' : Row) (j : Kept) → x ≡ Ok (Two r r' j) → Ok (TwoRows r r' j (at + s.bytes)) ≡ to_give L c line k at
    gives-two r r' j p = gives (Ok (Two r r' j)) p

    pub gives-full : (z : RowsError) → x ≡ Err z → Err z ≡ to_give L c line k at
    gives-full Full p = gives (Err Full) p
