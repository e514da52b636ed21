-- An exchange's reading is sound, so the laws of a walk hold of its lines: a whole frame stands within the bytes, a reading waits for no more
-- than the longest frame, and bytes that follow take no answer and no message back.
use Rattle.std.specs.Prelude.{None}
use Prim.Native.Nat.{ℕ, ◌*◌, ◌≤◌, ◌<◌}
use mathlib.Core.Path.{◌≡◌, refl, sym, ap, ◌∙◌}
use mathlib.Core.Bool.{Bool, true, false, cond, ◌&&◌, ◌||◌}
use mathlib.Core.List.{List, [], ◌∷◌, ◌++◌}
use mathlib.Core.Logic.{◌⊎◌, inl, inr}
use native.Mathlib.Omega.{arith}
use lib.ListN.{length, get_or, take}
use lib.Dec.{eqb, leb}
use borrow.Author.Tests.{eqb-true, eqb-false, eq-eqb, ne_eqb, leb-true, leb-false, lt-leb}
use Rattle.digits.proofs.Bools.{no_false}
use Rattle.layout.specs.Places.{first_bad}
use Rattle.layout.specs.Checks.{first_fail}
use Rattle.layout.proofs.CheckLaws.{only-fails}
use Rattle.answers.specs.Answers.{named, answer_number, answer_length}
use Rattle.answers.specs.declared.Answer.{Answer}
use Rattle.answers.specs.declared.Answer.TheVariants.{NoFrame}
use Rattle.frame.specs.Header.{Header, length_at, length_end, start, length_bytes, length_cells, length_of, own, body, head_bad, head_good, length_right, last_checks, outline_checks, front, rear}
use Rattle.frame.specs.Codec.{Codec, HeaderLaw, values_of}
use Rattle.frame.proofs.HeaderLaws.{right-length, passes-outlined, within-line, least-length}
use Rattle.frame.proofs.OutlineSteps.{fails-empty, fails-first, fails-header, fails-length, fails-whole, passed-whole, longer, more-first, more_bytes, more-right, more-length, more-own}
use Rattle.walk.specs.Walk.{is_whole}
use Rattle.walk.specs.Answers.{answering}
use Rattle.walk.specs.Sound.{Sound}
use Rattle.exchange.specs.Reading.{Exchange, Behind, checks_of, place_of, frame_at, answer_by}
use Rattle.exchange.specs.Trips.{message_by}
use Rattle.exchange.proofs.NumberLaws.{fails-at-least, fails-at-most, length-named}
use Rattle.exchange.proofs.ReadingLaws.{answer-number, checks-apart, checks-not}

module _ {H : Header} (E : Exchange H) (header-law : HeaderLaw H) (law : Behind E) where
  module _ (t : List ℕ) where
    abbrev k : ℕ
    k = first_fail (outline_checks H t)

    abbrev n : ℕ
    n = first_fail (checks_of E t)

    -- the outline's number is the reading's, or 0
    by-outline : (P : Type 0) → (k ≡ 0 → (n ≡ 0) ⊎ (7 ≤ n) → P) → ((k ≡ 0 → ⊥) → n ≡ k → P) → P
    by-outline P whole not = go (eqb k 0) refl
      where
        go : (b : Bool) → eqb k 0 ≡ b → P
        go true e =
            let z = eqb-true k 0 e in
            let same : n ≡ first_fail (E.checks (own H t)) = checks-apart E t ∙ rw (eq-eqb k 0 z) in
            whole z (either same (fails-at-least 7 (E.checks (own H t)) (law.from-seven (own H t))))
          where
            either : n ≡ first_fail (E.checks (own H t)) → (first_fail (E.checks (own H t)) ≡ 0) ⊎ (7 ≤ first_fail (E.checks (own H t))) → (n ≡ 0) ⊎ (7 ≤ n)
            either s (inl z) = inl (s ∙ z)
            either s (inr z) = inr (omega (arith, s, z))
        go false e = not (eqb-false k 0 e) (checks-not E t (eqb-false k 0 e))

    -- 1 to 6 are the outline's
    pub outline-is : (j : ℕ) → 1 ≤ j → j ≤ 6 → n ≡ j → k ≡ j
    outline-is j l m e = by-outline (k ≡ j) (λ z q. absurd (other q)) (λ z same. sym same ∙ e)
      where
        other : (n ≡ 0) ⊎ (7 ≤ n) → ⊥
        other (inl z) = omega (arith, z, e, l)
        other (inr z) = omega (arith, z, e, m)

    -- a frame that stands there whole: within the bytes, and no shorter than the least
    abbrev Within : Type 0
    Within = (H.least ≤ length_of H t) × (length_of H t ≤ length t)

    stands : length_right H t ≡ true → leb (length_of H t) (length t) ≡ true → Within
    stands r w = ((right-length H header-law t r).0, leb-true (length_of H t) (length t) w)

    within : (1 ≤ n → n ≤ 5 → ⊥) → Within
    within h = by-outline Within outlined refused
      where
        outlined : k ≡ 0 → (n ≡ 0) ⊎ (7 ≤ n) → Within
        outlined z q = let o = passes-outlined H t z in (least-length H header-law t o, within-line H header-law t o)

        refused : (k ≡ 0 → ⊥) → n ≡ k → Within
        refused z e =
            let few : k ≤ 6 = fails-at-most 6 (outline_checks H t) refl in
            let six : k ≡ 6 = is-six few (leb n 5) refl in
            let all = (only-fails 6 (take 7 (outline_checks H t)) (head_good H (own H t)) [] refl refl (λ x. omega arith) six).0 in
            stands all.1.1.1.0 all.1.1.1.1.0
          where
            is-six : k ≤ 6 → (b : Bool) → leb n 5 ≡ b → k ≡ 6
            is-six few true q = absurd (h (omega (arith, e, z)) (leb-true n 5 q))
            is-six few false q = omega (arith, few, e, leb-false n 5 q)

    pub whole-within : (1 ≤ answer_number (answer_by E t) → answer_number (answer_by E t) ≤ 5 → ⊥)
        → (H.least ≤ answer_length (answer_by E t)) × (answer_length (answer_by E t) ≤ length t)
    whole-within h =
        let same = answer-number E t in
        let big : 1 ≤ n → n ≤ 5 → ⊥ = λ x y. h (omega (arith, same, x)) (omega (arith, same, y)) in
        let long = length-named n (frame_at E t) (place_of E n t) big in
        let w = within big in
        (omega (arith, long, w.0), omega (arith, long, w.1))

    -- ---- a reading waits for no more than the longest frame
    pub waits-short : answer_number (answer_by E t) ≡ 2 → length t < H.most
    waits-short e = by-outline (length t < H.most) outlined refused
      where
        two : n ≡ 2
        two = sym (answer-number E t) ∙ e

        bound : length_end H ≤ H.most
        bound = omega (arith, header-law.least-around, header-law.least-most)

        outlined : k ≡ 0 → (n ≡ 0) ⊎ (7 ≤ n) → length t < H.most
        outlined z (inl q) = absurd (omega (arith, two, q))
        outlined z (inr q) = absurd (omega (arith, two, q))

        refused : (k ≡ 0 → ⊥) → n ≡ k → length t < H.most
        refused z q = some (leb 1 (length t)) refl
          where
            is : k ≡ 2
            is = sym q ∙ two

            whole : 1 ≤ length t → get_or t 0 0 ≡ 27 → length_end H ≤ length t → length_right H t ≡ true → (b : Bool) → leb (length_of H t) (length t) ≡ b → length t < H.most
            whole s f h r true p =
                let w = leb-true (length_of H t) (length t) p in
                let last = sym (passed-whole H t s f h r w) ∙ is in
                absurd (late (first_fail (last_checks H (own H t))) last (fails-at-least 4 (last_checks H (own H t)) refl))
              where
                late : (m : ℕ) → m ≡ 2 → (m ≡ 0) ⊎ (4 ≤ m) → ⊥
                late m p (inl x) = omega arith
                late m p (inr x) = omega arith
            whole s f h r false p = omega (arith, leb-false (length_of H t) (length t) p, (right-length H header-law t r).1)

            right : 1 ≤ length t → get_or t 0 0 ≡ 27 → length_end H ≤ length t → (b : Bool) → length_right H t ≡ b → length t < H.most
            right s f h true p = whole s f h p (leb (length_of H t) (length t)) refl
            right s f h false p = absurd (omega (arith, is, fails-length H t s f h p))

            headed : 1 ≤ length t → get_or t 0 0 ≡ 27 → (b : Bool) → leb (length_end H) (length t) ≡ b → length t < H.most
            headed s f true p = right s f (leb-true (length_end H) (length t) p) (length_right H t) refl
            headed s f false p = omega (arith, leb-false (length_end H) (length t) p, bound)

            first : 1 ≤ length t → (b : Bool) → eqb (get_or t 0 0) 27 ≡ b → length t < H.most
            first s true p = headed s (eqb-true (get_or t 0 0) 27 p) (leb (length_end H) (length t)) refl
            first s false p = absurd (omega (arith, is, fails-first H t s (eqb-false (get_or t 0 0) 27 p)))

            some : (b : Bool) → leb 1 (length t) ≡ b → length t < H.most
            some true p = first (leb-true 1 (length t) p) (eqb (get_or t 0 0) 27) refl
            some false p = omega (arith, leb-false 1 (length t) p, bound)

  -- ---- where no 27 stands the reading answers 1
  -- an answer by its number, the frame's own bytes, those of its length, and the length
  abbrev answered : ℕ → List ℕ → List ℕ → ℕ → Answer
  answered n f bs l =
      named n (record { format = E.format f; seq = E.seq f; length = l })
      (cond (eqb n 11) (first_bad (E.cells f) (2 * start H) (body H f)) (cond (eqb n 3) (first_bad length_cells (2 * length_at H) bs) (cond (eqb n 6) (head_bad H f) None)))

  answer-of : (t : List ℕ) (n : ℕ) → first_fail (checks_of E t) ≡ n → answer_by E t ≡ answered n (own H t) (length_bytes H t) (length_of H t)
  answer-of t n e = ap (λ (m : ℕ). answered m (own H t) (length_bytes H t) (length_of H t)) e

  refuses : (t : List ℕ) (n : ℕ) → (n ≡ 0 → ⊥) → first_fail (outline_checks H t) ≡ n → first_fail (checks_of E t) ≡ n
  refuses t n z e = checks-not E t (λ q. z (sym e ∙ q)) ∙ e

  pub quiet : (b : ℕ) (bs : List ℕ) → (b ≡ 27 → ⊥) → answer_by E (b ∷ bs) ≡ NoFrame 1 None
  quiet b bs h = answer-of (b ∷ bs) 1 (refuses (b ∷ bs) 1 (λ z. omega arith) (fails-first H (b ∷ bs) (omega arith) h))

  -- ---- bytes behind: an answer other than 2 stays
  module _ (t u : List ℕ) (settled : answer_number (answer_by E t) ≡ 2 → ⊥) where
    unsettled : first_fail (outline_checks H t) ≡ 2 → ⊥
    unsettled e = settled (answer-number E t ∙ refuses t 2 (λ z. omega arith) e)

    -- what is said of bytes whose length and own bytes are those of t
    abbrev Stays : Type 0
    Stays = (first_fail (checks_of E (t ++ u)) ≡ first_fail (checks_of E t)) × (answer_by E (t ++ u) ≡ answer_by E t)

    -- the same frame stands at the front
    module _ (s : 1 ≤ length t) (f : get_or t 0 0 ≡ 27) (h : length_end H ≤ length t) (r : length_right H t ≡ true) (w : length_of H t ≤ length t) where
      same-own : own H (t ++ u) ≡ own H t
      same-own = more-own H t u h w

      same-outline : first_fail (outline_checks H (t ++ u)) ≡ first_fail (outline_checks H t)
      same-outline =
          passed-whole H (t ++ u) (omega (arith, longer H t u)) (more-first H t u s ∙ f) (omega (arith, longer H t u)) (more-right H t u h ∙ r)
          (omega (arith, longer H t u, more-length H t u h))
          ∙ ap (λ (x : List ℕ). first_fail (last_checks H x)) same-own
          ∙ sym (passed-whole H t s f h r w)

      same-checks : first_fail (checks_of E (t ++ u)) ≡ first_fail (checks_of E t)
      same-checks =
          checks-apart E (t ++ u)
          ∙ (λ i. cond (eqb (same-outline i) 0) (first_fail (E.checks (same-own i))) (same-outline i))
          ∙ sym (checks-apart E t)

      whole-stays : Stays
      whole-stays = (same-checks, λ i. answered (same-checks i) (same-own i) (more_bytes H t u h i) (more-length H t u h i))

    -- an answer that the outline gives before the frame's own bytes are looked at
    early : (n : ℕ) → (n ≡ 0 → ⊥) → first_fail (outline_checks H (t ++ u)) ≡ n → first_fail (outline_checks H t) ≡ n
        → answered n (own H (t ++ u)) (length_bytes H (t ++ u)) (length_of H (t ++ u)) ≡ answered n (own H t) (length_bytes H t) (length_of H t) → Stays
    early n z p q e =
        let a = refuses (t ++ u) n z p in
        let b = refuses t n z q in
        (a ∙ sym b, answer-of (t ++ u) n a ∙ e ∙ sym (answer-of t n b))

    by_front : (P : Type 0)
        → ((s : 1 ≤ length t) → (get_or t 0 0 ≡ 27 → ⊥) → P)
        → ((s : 1 ≤ length t) (f : get_or t 0 0 ≡ 27) (h : length_end H ≤ length t) → length_right H t ≡ false → P)
        → ((s : 1 ≤ length t) (f : get_or t 0 0 ≡ 27) (h : length_end H ≤ length t) (r : length_right H t ≡ true) (w : length_of H t ≤ length t) → P)
        → P
    by_front P noise bad front = some (leb 1 (length t)) refl
      where
        whole : (s : 1 ≤ length t) (f : get_or t 0 0 ≡ 27) (h : length_end H ≤ length t) (r : length_right H t ≡ true) (b : Bool) → leb (length_of H t) (length t) ≡ b → P
        whole s f h r true p = front s f h r (leb-true (length_of H t) (length t) p)
        whole s f h r false p = absurd (unsettled (fails-whole H t s f h r (leb-false (length_of H t) (length t) p)))

        right : (s : 1 ≤ length t) (f : get_or t 0 0 ≡ 27) (h : length_end H ≤ length t) (b : Bool) → length_right H t ≡ b → P
        right s f h true p = whole s f h p (leb (length_of H t) (length t)) refl
        right s f h false p = bad s f h p

        headed : (s : 1 ≤ length t) (f : get_or t 0 0 ≡ 27) (b : Bool) → leb (length_end H) (length t) ≡ b → P
        headed s f true p = right s f (leb-true (length_end H) (length t) p) (length_right H t) refl
        headed s f false p = absurd (unsettled (fails-header H t s f (leb-false (length_end H) (length t) p)))

        first : (s : 1 ≤ length t) (b : Bool) → eqb (get_or t 0 0) 27 ≡ b → P
        first s true p = headed s (eqb-true (get_or t 0 0) 27 p) (leb (length_end H) (length t)) refl
        first s false p = noise s (eqb-false (get_or t 0 0) 27 p)

        some : (b : Bool) → leb 1 (length t) ≡ b → P
        some true p = first (leb-true 1 (length t) p) (eqb (get_or t 0 0) 27) refl
        some false p = absurd (unsettled (fails-empty H t (leb-false 1 (length t) p)))

    stays : Stays
    stays = by_front Stays noise bad whole-stays
      where
        noise : (s : 1 ≤ length t) → (get_or t 0 0 ≡ 27 → ⊥) → Stays
        noise s h =
            early 1 (λ z. omega arith) (fails-first H (t ++ u) (omega (arith, longer H t u)) (λ q. h (sym (more-first H t u s) ∙ q))) (fails-first H t s h) refl

        bad : (s : 1 ≤ length t) (f : get_or t 0 0 ≡ 27) (h : length_end H ≤ length t) → length_right H t ≡ false → Stays
        bad s f h r =
            early 3 (λ z. omega arith)
            (fails-length H (t ++ u) (omega (arith, longer H t u)) (more-first H t u s ∙ f) (omega (arith, longer H t u)) (more-right H t u h ∙ r))
            (fails-length H t s f h r)
            (ap (λ (bs : List ℕ). NoFrame 3 (first_bad length_cells (2 * length_at H) bs)) (more_bytes H t u h))

    pub answer-more : answer_by E (t ++ u) ≡ answer_by E t
    answer-more = stays.1

    pub checks-more : first_fail (checks_of E (t ++ u)) ≡ first_fail (checks_of E t)
    checks-more = stays.0

    -- no message is taken back
    pub message-more : {M : Type 0} (C : Codec H M) (has : ℕ → Bool) (none : M) → message_by E C has none (t ++ u) ≡ message_by E C has none t
    message-more C has none =
        let Same = message_by E C has none (t ++ u) ≡ message_by E C has none t in
        by_front Same (λ s h. refused 1 (λ z. omega arith) (fails-first H t s h)) (λ s f h r. refused 3 (λ z. omega arith) (fails-length H t s f h r)) front
      where
        refused : (n : ℕ) → (n ≡ 0 → ⊥) → first_fail (outline_checks H t) ≡ n → message_by E C has none (t ++ u) ≡ message_by E C has none t
        refused n z e =
            let b = ap (λ (k : ℕ). eqb k 0) (refuses t n z e) ∙ ne_eqb n 0 z in
            let a = ap (λ (k : ℕ). eqb k 0) checks-more ∙ b in
            rw (a, b)

        front : (s : 1 ≤ length t) (f : get_or t 0 0 ≡ 27) (h : length_end H ≤ length t) (r : length_right H t ≡ true) (w : length_of H t ≤ length t) → message_by E C has none (t ++ u) ≡ message_by E C has none t
        front s f h r w = λ i.
            let x = same-own s f h r w i in
            cond (eqb (checks-more i) 0 && has (E.format x)) (C.message (Rattle.frame.specs.Header.front H x) (rear H x) (values_of C (body H x))) none

  -- ---- so the laws of a walk hold
  -- 0 and 6 to 13 are none of 1 to 5
  not-small : (n : ℕ) → is_whole n ≡ true → 1 ≤ n → n ≤ 5 → ⊥
  not-small n w l h = no_false (sym (ap (λ (b : Bool). b || leb 6 n) (ne_eqb n 0 (λ e. omega (arith, e))) ∙ lt-leb 6 n (omega arith)) ∙ w)

  pub sound-reading : Sound (answering (answer_by E)) H.most
  sound-reading = record {
    nothing = answer-number E [] ∙ refuses [] 2 (λ z. omega arith) (fails-empty H [] (omega arith));
    some = λ t w. omega (arith, (whole-within t (not-small (answer_number (answer_by E t)) w)).0, header-law.least-around);
    inside = λ t w. (whole-within t (not-small (answer_number (answer_by E t)) w)).1;
    settled = answer-more;
    short = waits-short;
  }
