-- The place beside an answer is the lowest bad half of what its number speaks of.
use Rattle.std.specs.Prelude.{None, Option, Some}
use Prim.Native.Nat.{ℕ, ◌+◌, ◌-◌, ◌*◌, ◌≤◌, ◌<◌}
use mathlib.Core.Path.{◌≡◌, refl, sym, ap, ap₂, ◌∙◌, subst}
use mathlib.Core.Bool.{Bool, true, false, cond, ◌&&◌, and-true}
use mathlib.Core.List.{List, [], ◌++◌}
use native.Mathlib.Omega.{arith}
use lib.ListN.{length, take, drop, length-drop}
use lib.Seq.{length-take-le, drop-drop, take_all}
use lib.Dec.{eqb}
use borrow.Author.Tests.{eqb-true, eqb-false, ne_eqb, leb-true}
use Rattle.digits.specs.Packed.{good_field}
use Rattle.digits.specs.Halves.{bad_field, is_none, or_else, Lowest}
use Rattle.digits.proofs.Bools.{and_left, no_false}
use Rattle.digits.proofs.HalfLaws.{bad_field-none}
use Rattle.layout.specs.Cells.{size}
use Rattle.layout.specs.Places.{first_bad, bad_half}
use Rattle.layout.specs.Checks.{first_fail, all_hold}
use Rattle.layout.proofs.CheckLaws.{only-fails}
use Rattle.layout.proofs.PlaceLaws.{first_bad-none, first_bad-lowest, first_bad-append, first_bad-from, first_bad-inside, first_bad-size, else-none}
use Rattle.answers.specs.Answers.{answer_number, answer_place}
use Rattle.frame.specs.Header.{Header, length_at, length_end, start, around, length_bytes, length_cells, length_of, head_cells, own, body, head_good, head_bad, length_right, outline_checks}
use Rattle.frame.specs.Codec.{HeaderLaw}
use Rattle.frame.proofs.HeaderLaws.{right-length, length-bytes-taken, passes-outlined, most-length, length-body}
use Rattle.exchange.specs.Reading.{Exchange, Behind, checks_of, place_of, frame_at, answer_by}
use Rattle.exchange.specs.Places.{PlaceSays}
use Rattle.exchange.proofs.NumberLaws.{fails-at-most, place-named}
use Rattle.exchange.proofs.ReadingLaws.{answer-number, checks-apart}
use Rattle.exchange.proofs.SoundLaws.{outline-is}

-- no place at all
none_is : (p : Option ℕ) → is_none p ≡ true → p ≡ None
none_is None h = refl
none_is (Some q) h = absurd (no_false h)

-- ---- the header of a frame whose length's digits are good
module _ (H : Header) (f : List ℕ) (long : start H ≤ length f) (good : good_field 4 (length_bytes H f) ≡ true) where
  two_bytes : length (length_bytes H f) ≡ 2
  two_bytes = length-take-le 2 (drop (length_at H) f) (rw length-drop (omega arith))

  -- its first bad half is none of the length's
  head_first : first_bad (head_cells H) 2 (drop 1 f) ≡ head_bad H f
  head_first =
      let z = size H.before in
      let p = 2 + 2 * z in
      let bad : bad_field 4 p (length_bytes H f) ≡ None = none_is (bad_field 4 p (length_bytes H f)) (bad_field-none 4 p (length_bytes H f) two_bytes ∙ good) in
      let far : p + 2 * 2 ≡ 2 * length_end H = omega arith in
      let last : drop 2 (drop (length_at H) f) ≡ drop (length_end H) f =
      let e : length_at H + 2 ≡ length_end H = omega arith in drop-drop 2 (length_at H) f ∙ ap (λ (k : ℕ). drop k f) e in
      first_bad-append H.before (length_cells ++ H.after) 2 (drop 1 f)
      ∙ ap (or_else (first_bad H.before 2 (drop 1 f)))
      (ap (first_bad (length_cells ++ H.after) p) (drop-drop z 1 f)
      ∙ ap (λ (x : Option ℕ). or_else x (first_bad H.after (p + 2 * 2) (drop 2 (drop (length_at H) f)))) bad
      ∙ ap₂ (λ (k : ℕ) (l : List ℕ). first_bad H.after k l) far last)

  head-none : is_none (head_bad H f) ≡ head_good H f
  head-none =
      else-none (first_bad H.before 2 (drop 1 f)) (first_bad H.after (2 * length_end H) (drop (length_end H) f))
      ∙ ap₂ ◌&&◌ (first_bad-none H.before 2 (drop 1 f) (rw length-drop (omega arith)))
      (first_bad-none H.after (2 * length_end H) (drop (length_end H) f) (rw length-drop (omega arith)))

module _ {H : Header} (E : Exchange H) (header-law : HeaderLaw H) (law : Behind E) (t : List ℕ) where
  abbrev n : ℕ
  n = answer_number (answer_by E t)

  abbrev k : ℕ
  k = first_fail (outline_checks H t)

  abbrev f : List ℕ
  f = own H t

  pub place_at : (j : ℕ) → n ≡ j → answer_place (answer_by E t) ≡ place_of E j t
  place_at j e =
      place-named (first_fail (checks_of E t)) (frame_at E t) (place_of E (first_fail (checks_of E t)) t) (λ z. ap (λ (i : ℕ). place_of E i t) z)
      ∙ ap (λ (i : ℕ). place_of E i t) (sym (answer-number E t) ∙ e)

  outline-at : (j : ℕ) → 1 ≤ j → j ≤ 6 → n ≡ j → k ≡ j
  outline-at j l m e = outline-is E header-law law t j l m (sym (answer-number E t) ∙ e)

  -- ---- 3
  length-there : n ≡ 3 → length (length_bytes H t) ≡ 2
  length-there e =
      let all = (only-fails 3 (take 3 (outline_checks H t)) (length_right H t) (drop 4 (outline_checks H t)) refl refl (λ z. omega arith) (outline-at 3 (omega arith) (omega arith) e)).0 in
      let three = leb-true (length_end H) (length t) all.1.1.0 in
      length-take-le 2 (drop (length_at H) t) (rw length-drop (omega (arith, three)))

  length_none : n ≡ 3 → is_none (answer_place (answer_by E t)) ≡ good_field 4 (length_bytes H t)
  length_none e =
      ap is_none (place_at 3 e) ∙ first_bad-none length_cells (2 * length_at H) (length_bytes H t) (omega (arith, length-there e))
      ∙ and-true (good_field 4 (take 2 (length_bytes H t)))
      ∙ ap (good_field 4) (take_all 2 (length_bytes H t) (omega (arith, length-there e)))

  -- ---- 6
  module _ (e : n ≡ 6) where
    six-fails : all_hold (take 7 (outline_checks H t)) × (head_good H f ≡ false)
    six-fails = only-fails 6 (take 7 (outline_checks H t)) (head_good H f) [] refl refl (λ z. omega arith) (outline-at 6 (omega arith) (omega arith) e)

    right : length_right H t ≡ true
    right = six-fails.0.1.1.1.0

    long : around H ≤ length_of H t
    long = omega (arith, (right-length H header-law t right).0, header-law.least-around)

    count : length f ≡ length_of H t
    count = length-take-le (length_of H t) t (leb-true (length_of H t) (length t) six-fails.0.1.1.1.1.0)

    good_length : good_field 4 (length_bytes H f) ≡ true
    good_length = ap (good_field 4) (length-bytes-taken H header-law (length_of H t) t (omega (arith, long))) ∙ and_left _ _ right

    head-place : answer_place (answer_by E t) ≡ first_bad (head_cells H) 2 (drop 1 f)
    head-place = place_at 6 e ∙ sym (head_first H f (omega (arith, count, long)) good_length)

    head-lowest : Lowest (bad_half (head_cells H) (drop 1 f)) 2 (answer_place (answer_by E t))
    head-lowest = subst (Lowest (bad_half (head_cells H) (drop 1 f)) 2) (sym head-place) (first_bad-lowest (head_cells H) 2 (drop 1 f))

    head-cause : is_none (answer_place (answer_by E t)) ≡ false
    head-cause = ap is_none (place_at 6 e) ∙ head-none H f (omega (arith, count, long)) good_length ∙ six-fails.1

  -- ---- 11
  -- it is the exchange's own, behind a whole outline
  own-eleven : n ≡ 11 → (k ≡ 0) × (first_fail (E.checks f) ≡ 11)
  own-eleven e = go (eqb k 0) refl (sym (checks-apart E t) ∙ sym (answer-number E t) ∙ e)
    where
      go : (b : Bool) → eqb k 0 ≡ b → cond b (first_fail (E.checks f)) k ≡ 11 → (k ≡ 0) × (first_fail (E.checks f) ≡ 11)
      go true z q = (eqb-true k 0 z, q)
      go false z q = absurd (omega (arith, q, fails-at-most 6 (outline_checks H t) refl))

  body-none : n ≡ 11 → is_none (answer_place (answer_by E t)) ≡ false
  body-none e =
      let bad = law.bad-digit f (own-eleven e).1 in
      ap is_none (place_at 11 e) ∙ first_bad-none (E.cells f) (2 * start H) (body H f) bad.1 ∙ bad.0

  -- ---- any other
  other_none : (n ≡ 3 → ⊥) → (n ≡ 6 → ⊥) → (n ≡ 11 → ⊥) → answer_place (answer_by E t) ≡ None
  other_none three six eleven = place_at n refl ∙ rw (ne_eqb n 11 eleven, ne_eqb n 3 three, ne_eqb n 6 six)

  -- ---- within a frame
  inside : (p : ℕ) → answer_place (answer_by E t) ≡ Some p → (2 ≤ p) × (p < 2 * H.most)
  inside p e = go (eqb n 3) (eqb n 6) (eqb n 11) refl refl refl
    where
      room : around H ≤ H.most
      room = omega (arith, header-law.least-around, header-law.least-most)

      go : (x y z : Bool) → eqb n 3 ≡ x → eqb n 6 ≡ y → eqb n 11 ≡ z → (2 ≤ p) × (p < 2 * H.most)
      go true y z g h i =
          let at = sym (place_at 3 (eqb-true n 3 g)) ∙ e in
          let from = first_bad-from length_cells (2 * length_at H) (length_bytes H t) p at in
          let to = first_bad-size length_cells (2 * length_at H) (length_bytes H t) p at in
          (omega (arith, from), omega (arith, to, room))
      go false true z g h i =
          let six = eqb-true n 6 h in
          let at = sym (head-place six) ∙ e in
          let to = first_bad-inside (head_cells H) 2 (drop 1 f) p at in
          let all : length (drop 1 f) ≡ length f - 1 = length-drop 1 f in
          let most = (right-length H header-law t (right six)).1 in
          (first_bad-from (head_cells H) 2 (drop 1 f) p at, omega (arith, to, all, count six, long six, most))
      go false false true g h i =
          let eleven = eqb-true n 11 i in
          let at = sym (place_at 11 eleven) ∙ e in
          let o = passes-outlined H t (own-eleven eleven).0 in
          let from = first_bad-from (E.cells f) (2 * start H) (body H f) p at in
          let to = first_bad-inside (E.cells f) (2 * start H) (body H f) p at in
          (omega (arith, from), omega (arith, to, length-body H header-law t o, most-length H header-law t o))
      go false false false g h i =
          let none = other_none (eqb-false n 3 g) (eqb-false n 6 h) (eqb-false n 11 i) in
          let z : ◌≡◌ {A = ℕ} 0 1 = cc in
          absurd (omega arith)

  pub place-says : PlaceSays E t
  place-says = record {
    of_length = λ e. subst (Lowest (bad_half length_cells (length_bytes H t)) (2 * length_at H)) (sym (place_at 3 e)) (first_bad-lowest length_cells (2 * length_at H) (length_bytes H t));
    length-cause = length_none;
    of-head = head-lowest;
    head-cause = head-cause;
    of-body = λ e. subst (Lowest (bad_half (E.cells f) (body H f)) (2 * start H)) (sym (place_at 11 e)) (first_bad-lowest (E.cells f) (2 * start H) (body H f));
    body-cause = body-none;
    no_other = other_none;
    within = inside;
  }
