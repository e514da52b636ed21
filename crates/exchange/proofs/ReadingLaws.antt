-- What a reading answers by its steps: the outline, and behind it the exchange's own checks.
use Rattle.std.specs.Prelude.{None, Option}
use Prim.Native.Nat.{ℕ, ◌*◌, ◌≤◌}
use mathlib.Core.Path.{◌≡◌, refl, sym, ap, ◌∙◌}
use mathlib.Core.Bool.{Bool, true, false, cond}
use mathlib.Core.List.{List, [], ◌∷◌, ◌++◌}
use mathlib.Core.Logic.{◌⊎◌, inl, inr}
use native.Mathlib.Omega.{arith}
use lib.Dec.{eqb, leb}
use borrow.Author.Tests.{eqb-true, ne_eqb}
use Rattle.digits.proofs.Bools.{and_left, and_right, and_both}
use Rattle.layout.specs.Places.{first_bad}
use Rattle.layout.specs.Checks.{Check, must, first_fail}
use Rattle.layout.proofs.CheckLaws.{numbered, first_fail-append, none-fails, all_hold_lem}
use Rattle.answers.specs.Answers.{named, answer_number}
use Rattle.answers.specs.declared.Frame.{Frame}
use Rattle.answers.specs.declared.Answer.TheVariants.{NoFrame, Refused}
use Rattle.frame.specs.Header.{Header, length_of, own, body, start, outline_checks, outline_place, Outlined}
use Rattle.frame.specs.Figures.{beside, at_most}
use Rattle.frame.proofs.HeaderLaws.{outlined-passes, passes-outlined}
use Rattle.exchange.specs.Reading.{Exchange, Behind, at_least, checks_of, place_of, frame_at, answer_by}
use Rattle.exchange.specs.Trips.{AnswerSays}
use Rattle.exchange.proofs.NumberLaws.{fails-at-least, fails-at-most, number-named, values-named}

-- ---- some checks and then others
at-most-append : (k : ℕ) (cs ds : List Check) → at_most k cs ≡ true → at_most k ds ≡ true → at_most k (cs ++ ds) ≡ true
at-most-append k [] ds h g = g
at-most-append k (must n t ∷ cs) ds h g =
    and_both (and_left (leb n k) (at_most k cs) h)
    (at-most-append k cs ds (and_right (leb n k) (at_most k cs) h) g)

numbered-append : (cs ds : List Check) → numbered cs ≡ true → numbered ds ≡ true → numbered (cs ++ ds) ≡ true
numbered-append [] ds h g = g
numbered-append (must Prim.Native.Nat.zero t ∷ cs) ds h g = h
numbered-append (must (Prim.Native.Nat.suc n) t ∷ cs) ds h g = numbered-append cs ds h g

seven-numbered : (cs : List Check) → at_least 7 cs ≡ true → numbered cs ≡ true
seven-numbered [] h = refl
seven-numbered (must Prim.Native.Nat.zero t ∷ cs) h = h
seven-numbered (must (Prim.Native.Nat.suc n) t ∷ cs) h = seven-numbered cs (and_right (leb 7 (Prim.Native.Nat.suc n)) _ h)

module _ {H : Header} (E : Exchange H) where
  -- ---- an answer's number is the first check that fails
  pub answer-number : (t : List ℕ) → answer_number (answer_by E t) ≡ first_fail (checks_of E t)
  answer-number t = number-named (first_fail (checks_of E t)) (frame_at E t) (place_of E (first_fail (checks_of E t)) t)

  -- a reading that waits says nothing but 2
  pub waits-alone : (t : List ℕ) → answer_number (answer_by E t) ≡ 2 → answer_by E t ≡ NoFrame 2 None
  waits-alone t e = ap (λ (n : ℕ). named n (frame_at E t) (place_of E n t)) (sym (answer-number t) ∙ e)

  -- the outline's first failure, or the exchange's own
  pub checks-apart : (t : List ℕ) → first_fail (checks_of E t)
      ≡ cond (eqb (first_fail (outline_checks H t)) 0) (first_fail (E.checks (own H t))) (first_fail (outline_checks H t))
  checks-apart t = first_fail-append (outline_checks H t) (E.checks (own H t)) refl

  pub checks-outlined : (t : List ℕ) → Outlined H t → first_fail (checks_of E t) ≡ first_fail (E.checks (own H t))
  checks-outlined t o =
      checks-apart t ∙ ap (λ (n : ℕ). cond (eqb n 0) (first_fail (E.checks (own H t))) n) (outlined-passes H t o)

  pub checks-not : (t : List ℕ) → (first_fail (outline_checks H t) ≡ 0 → ⊥) → first_fail (checks_of E t) ≡ first_fail (outline_checks H t)
  checks-not t h =
      checks-apart t
      ∙ ap (λ (b : Bool). cond b (first_fail (E.checks (own H t))) (first_fail (outline_checks H t))) (ne_eqb (first_fail (outline_checks H t)) 0 h)

  pub accepted-outlined : (t : List ℕ) → first_fail (checks_of E t) ≡ 0 → Outlined H t
  accepted-outlined t p = passes-outlined H t (go (first_fail (outline_checks H t)) (eqb (first_fail (outline_checks H t)) 0) refl (sym (checks-apart t) ∙ p))
    where
      go : (n : ℕ) (x : Bool) → eqb n 0 ≡ x → cond x (first_fail (E.checks (own H t))) n ≡ 0 → n ≡ 0
      go n true e q = eqb-true n 0 e
      go n false e q = q

  -- ---- a whole outline: what the checks behind it answer
  module _ (law : Behind E) where
    -- a refusal of the outline is the reading's, whatever frame it names
    pub answer-not : (t : List ℕ) (f : Frame) → f.length ≡ length_of H t → (first_fail (outline_checks H t) ≡ 0 → ⊥)
        → named (first_fail (outline_checks H t)) f (outline_place H (first_fail (outline_checks H t)) t) ≡ answer_by E t
    answer-not t f e h =
        let n = first_fail (outline_checks H t) in
        let few : n ≤ 6 = fails-at-most 6 (outline_checks H t) refl in
        let place : outline_place H n t ≡ place_of E n t =
        sym (ap (λ (x : Bool). cond x (first_bad (E.cells (own H t)) (2 * start H) (body H (own H t))) (outline_place H n t)) (ne_eqb n 11 (λ z. omega (arith, few, z)))) in
        refusal n f (frame_at E t) (outline_place H n t) h e
        ∙ ap (named n (frame_at E t)) place
        ∙ ap (λ (k : ℕ). named k (frame_at E t) (place_of E k t)) (sym (checks-not t h))
      where
        -- a refusal says nothing of the frame but its length
        refusal : (n : ℕ) (f g : Frame) (p : Option ℕ) → (n ≡ 0 → ⊥) → f.length ≡ g.length → named n f p ≡ named n g p
        refusal n f g p h e =
            rw (ne_eqb n 0 h) (ap (λ (l : ℕ). cond (leb n 5) (NoFrame n p) (Refused n l p)) e)

    -- behind a whole outline the answer is that of the exchange's own checks, with the place of a bad digit in the body
    pub answer-outlined : (t : List ℕ) → Outlined H t → let n = first_fail (E.checks (own H t)) in
        named n (frame_at E t) (cond (eqb n 11) (first_bad (E.cells (own H t)) (2 * start H) (body H (own H t))) None) ≡ answer_by E t
    answer-outlined t o =
        let n = first_fail (E.checks (own H t)) in
        ap (named n (frame_at E t)) (place n refl)
        ∙ ap (λ (k : ℕ). named k (frame_at E t) (place_of E k t)) (sym (checks-outlined t o))
      where
        not-small : (n k : ℕ) → first_fail (E.checks (own H t)) ≡ n → 1 ≤ k → k ≤ 6 → n ≡ k → ⊥
        not-small n k e l m q = by (fails-at-least 7 (E.checks (own H t)) (law.from-seven (own H t)))
          where
            by : (first_fail (E.checks (own H t)) ≡ 0) ⊎ (7 ≤ first_fail (E.checks (own H t))) → ⊥
            by (inl z) = omega (arith, z, e, q, l)
            by (inr z) = omega (arith, z, e, q, m)

        place : (n : ℕ) → first_fail (E.checks (own H t)) ≡ n
            → cond (eqb n 11) (first_bad (E.cells (own H t)) (2 * start H) (body H (own H t))) None ≡ place_of E n t
        place n e =
            let three = ne_eqb n 3 (not-small n 3 e (omega arith) (omega arith)) in
            let six = ne_eqb n 6 (not-small n 6 e (omega arith) (omega arith)) in
            sym (rw (three, six))

    -- ---- acceptance exactly
    pub answer-says : (t : List ℕ) → AnswerSays E t
    answer-says t =
        let n = first_fail (checks_of E t) in
        let all-numbered = numbered-append (outline_checks H t) (E.checks (own H t)) refl (seven-numbered (E.checks (own H t)) (law.from-seven (own H t))) in
        record {
          exactly = (λ p. all_hold_lem (checks_of E t) all-numbered (sym (answer-number t) ∙ p), λ h. answer-number t ∙ none-fails (checks_of E t) h);
          first = answer-number t;
          at-most =
              rw (answer-number t)
              (fails-at-most 13 (checks_of E t) (at-most-append 13 (outline_checks H t) (E.checks (own H t)) refl (law.to-thirteen (own H t))));
          values =
              let f = own H t in
              values-named n (frame_at E t) (place_of E n t)
              ∙ ap (λ (k : ℕ). beside k (E.format f ∷ E.seq f ∷ length_of H t ∷ []) (length_of H t) (place_of E k t)) (sym (answer-number t));
        }
