-- What a walk over answers does at a place of a line: where it stops, how it moves, and the turns of a count over it.
use Prim.Native.Nat.{ℕ, ◌+◌, ◌-◌, ◌≤◌, ◌<◌}
use mathlib.Core.Path.{◌≡◌, refl, sym, ap, ◌∙◌}
use mathlib.Core.Bool.{Bool, true, false, cond, not, ◌&&◌, ◌||◌}
use mathlib.Core.List.{List, [], ◌∷◌}
use native.Mathlib.Omega.{arith}
use lib.ListN.{length, drop, length-drop}
use lib.Seq.{drop-drop}
use lib.Dec.{eqb}
use borrow.Author.Tests.{eqb-true, ne_eqb}
use Rattle.answers.specs.Answers.{answer_number}
use Rattle.answers.specs.declared.Answer.{Answer}
use Rattle.walk.specs.Walk.{Reading, Move, taken, stops, walk_from, walk, rest_of}
use Rattle.walk.specs.Sound.{Sound}
use Rattle.walk.specs.Answers.{answering, past_of}
use Rattle.walk.specs.Tally.{is_accepted, is_refused, is_skipped, bytes_of, tally_of, no_bytes, largest, moved_on, capped, row_figures}
use Rattle.walk.specs.declared.tally.Tally.{Tally}
use Rattle.walk.proofs.WalkLaws.{step, behind, stops-at-end, takes-some, takes-within, walk-stops, walk-moves}
use Rattle.walk.proofs.FigureLaws.{one-kind}

module _ (says : List ℕ → Answer) (longest : ℕ) (S : Sound (answering says) longest) where
  abbrev R : Reading Answer
  R = answering says

  -- ---- at some bytes
  -- the two ways on: the walk stops, or it moves past what the answer says
  pub past-stops : (c : Bool) (t : List ℕ) → 1 ≤ length t → past_of c (says t) ≡ 0 → stops R c t ≡ true
  past-stops c t h e = go (eqb (answer_number (says t)) 2) refl c e
    where
      go : (b : Bool) → eqb (answer_number (says t)) 2 ≡ b → (d : Bool) → cond b (cond d 1 0) (taken R (says t)) ≡ 0 → (b && (not d || eqb (length t) 0)) ≡ true
      go true p true q = absurd (omega arith)
      go true p false q = refl
      go false p d q = absurd (omega (arith, q, takes-some R longest S t))

  pub past-moves : (c : Bool) (t : List ℕ) → 1 ≤ length t → (past_of c (says t) ≡ 0 → ⊥) → (stops R c t ≡ false) × (past_of c (says t) ≡ taken R (says t))
  past-moves c t h e = go (eqb (answer_number (says t)) 2) refl c e
    where
      one : answer_number (says t) ≡ 2 → 1 ≡ taken R (says t)
      one p = rw p

      go : (b : Bool) → eqb (answer_number (says t)) 2 ≡ b → (d : Bool) → (cond b (cond d 1 0) (taken R (says t)) ≡ 0 → ⊥)
          → ((b && (not d || eqb (length t) 0)) ≡ false) × (cond b (cond d 1 0) (taken R (says t)) ≡ taken R (says t))
      go true p true q = (ne_eqb (length t) 0 (λ z. omega (arith, z)), one (eqb-true (answer_number (says t)) 2 p))
      go true p false q = absurd (q refl)
      go false p d q = (refl, refl)

  -- ---- at a place of a line
  module _ (c : Bool) (line : List ℕ) where
    abbrev from : ℕ → List ℕ
    from at = drop at line

    pub some_left : (at : ℕ) → at < length line → 1 ≤ length (from at)
    some_left at h = rw length-drop (omega arith)

    pub none_left : (at : ℕ) → length line ≤ at → stops R c (from at) ≡ true
    none_left at h = let e : length (from at) ≡ 0 = rw length-drop (omega arith) in stops-at-end R longest S c (from at) e

    -- a move stays on the line
    pub move-within : (at : ℕ) → at < length line → (past_of c (says (from at)) ≡ 0 → ⊥) → at + past_of c (says (from at)) ≤ length line
    move-within at h e =
        let m = past-moves c (from at) (some_left at h) e in
        let n : length (from at) ≡ length line - at = length-drop at line in
        omega (arith, h, m.1, n, takes-within R longest S c (from at) m.0)

    from-behind : (at n : ℕ) → n ≡ step R (from at) → behind R (from at) ≡ from (at + n)
    from-behind at n e = drop-drop (step R (from at)) at line ∙ sym (ap (λ (k : ℕ). drop (at + k) line) e)

    -- the moves from a place on, after one of them
    pub walk_turn : (place at : ℕ) → at < length line → (past_of c (says (from at)) ≡ 0 → ⊥)
        → let n = past_of c (says (from at)) in
        (walk_from R c place (from at) ≡ record { at = place; said = says (from at); bytes = n } ∷ walk_from R c (place + n) (from (at + n)))
        × (rest_of R c (from at) ≡ rest_of R c (from (at + n)))
    walk_turn place at h e =
        let m = past-moves c (from at) (some_left at h) e in
        let w = walk-moves R longest S c place (from at) m.0 in
        let b = from-behind at (past_of c (says (from at))) m.1 in (
          w.0 ∙ (λ i. record { at = place; said = says (from at); bytes = sym m.1 i } ∷ walk_from R c (place + sym m.1 i) (b i)),
          w.1 ∙ ap (rest_of R c) b,
        )

    pub walk-stop : (place at : ℕ) → stops R c (from at) ≡ true → (walk_from R c place (from at) ≡ []) × (rest_of R c (from at) ≡ from at)
    walk-stop place at e = walk-stops R longest S c place (from at) e

    -- ---- counting
    abbrev ahead : ℕ → List (Move Answer)
    ahead at = walk_from R c at (from at)

    -- a tally of the moves up to a place
    pub record Counting (t : Tally) (at : ℕ) : Type 0 where
      pub within : at ≤ length line
      pub accepted-is : t.accepted + bytes_of R is_accepted (ahead at) ≡ bytes_of R is_accepted (walk R c line)
      pub refused-is : t.refused + bytes_of R is_refused (ahead at) ≡ bytes_of R is_refused (walk R c line)
      pub skipped-is : t.skipped + bytes_of R is_skipped (ahead at) ≡ bytes_of R is_skipped (walk R c line)
      pub sum_is : t.accepted + t.refused + t.skipped ≡ at
      pub none-waits : t.waiting ≡ 0
      pub rest-is : rest_of R c (from at) ≡ rest_of R c line

    tally-eq : (t u : Tally) → t.accepted ≡ u.accepted → t.refused ≡ u.refused → t.skipped ≡ u.skipped → t.waiting ≡ u.waiting → t ≡ u
    tally-eq t u a b d e = λ i. record { accepted = a i; refused = b i; skipped = d i; waiting = e i }

    pub counting-begins : (t : Tally) → t ≡ no_bytes → Counting t 0
    counting-begins t e = record {
      within = omega arith;
      accepted-is = ap (λ (u : Tally). u.accepted + bytes_of R is_accepted (walk R c line)) e ∙ omega arith;
      refused-is = ap (λ (u : Tally). u.refused + bytes_of R is_refused (walk R c line)) e ∙ omega arith;
      skipped-is = ap (λ (u : Tally). u.skipped + bytes_of R is_skipped (walk R c line)) e ∙ omega arith;
      sum_is = ap (λ (u : Tally). u.accepted + u.refused + u.skipped) e;
      none-waits = ap (λ (u : Tally). u.waiting) e;
      rest-is = refl;
    }

    module _ (t : Tally) (at : ℕ) (k : Counting t at) where
      -- a line's end
      pub counting-ends : length line ≤ at → t ≡ tally_of R c line
      unfolding tally_of
      counting-ends h =
          let w = walk-stop at at (none_left at h) in
          let left : length (from at) ≡ 0 = rw length-drop (omega arith) in
          let zeros : (kind : ℕ → Bool) → bytes_of R kind (ahead at) ≡ 0 = λ kind. ap (bytes_of R kind) w.0 in
          tally-eq t (tally_of R c line)
          (omega (arith, k.accepted-is, zeros is_accepted)) (omega (arith, k.refused-is, zeros is_refused)) (omega (arith, k.skipped-is, zeros is_skipped))
          (k.none-waits ∙ sym left ∙ ap length (sym w.1 ∙ k.rest-is))

      module _ (h : at < length line) where
        -- the rest waits
        pub counting-stops : past_of c (says (from at)) ≡ 0
            → record { accepted = t.accepted; refused = t.refused; skipped = t.skipped; waiting = length line - at } ≡ tally_of R c line
        unfolding tally_of
        counting-stops e =
            let w = walk-stop at at (past-stops c (from at) (some_left at h) e) in
            let zeros : (kind : ℕ → Bool) → bytes_of R kind (ahead at) ≡ 0 = λ kind. ap (bytes_of R kind) w.0 in
            tally-eq (record { accepted = t.accepted; refused = t.refused; skipped = t.skipped; waiting = length line - at }) (tally_of R c line)
            (omega (arith, k.accepted-is, zeros is_accepted)) (omega (arith, k.refused-is, zeros is_refused)) (omega (arith, k.skipped-is, zeros is_skipped))
            (sym (length-drop at line) ∙ ap length (sym w.1 ∙ k.rest-is))

        -- one move more
        pub counting-moves : length line ≤ largest → (e : past_of c (says (from at)) ≡ 0 → ⊥) → (u : Tally)
            → u ≡ capped (moved_on t (row_figures (says (from at)) (past_of c (says (from at))))) → Counting u (at + past_of c (says (from at)))
        counting-moves most e u is =
            let n = past_of c (says (from at)) in
            let x = answer_number (says (from at)) in
            let w = walk_turn at at h e in
            let in-line = move-within at h e in
            let one = one-kind x n in
            let a : u.accepted ≡ t.accepted + cond (is_accepted x) n 0 = ap (λ (v : Tally). v.accepted) is ∙ omega (arith, most, in-line, k.sum_is, one) in
            let b : u.refused ≡ t.refused + cond (is_refused x) n 0 = ap (λ (v : Tally). v.refused) is ∙ omega (arith, most, in-line, k.sum_is, one) in
            let d : u.skipped ≡ t.skipped + cond (is_skipped x) n 0 = ap (λ (v : Tally). v.skipped) is ∙ omega (arith, most, in-line, k.sum_is, one) in
            let grows : (kind : ℕ → Bool) → bytes_of R kind (ahead at) ≡ cond (kind x) n 0 + bytes_of R kind (ahead (at + n)) = λ kind. ap (bytes_of R kind) w.0 in
            record {
              within = in-line;
              accepted-is = omega (arith, a, grows is_accepted, k.accepted-is);
              refused-is = omega (arith, b, grows is_refused, k.refused-is);
              skipped-is = omega (arith, d, grows is_skipped, k.skipped-is);
              sum_is = omega (arith, a, b, d, one, k.sum_is);
              none-waits = ap (λ (v : Tally). v.waiting) is;
              rest-is = sym w.1 ∙ k.rest-is;
            }
