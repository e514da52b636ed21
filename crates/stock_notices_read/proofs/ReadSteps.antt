-- Reading a body: what each test tells of the checks, and the answer at each return.
use Rattle.std.specs.Prelude.{None}
use Prim.Native.Nat.{ℕ, suc, ◌+◌, ◌-◌, ◌*◌, ◌/◌, ◌%◌, ◌≤◌, ◌<◌}
use mathlib.Core.Path.{◌≡◌, refl, sym, ap, ap₂, ◌∙◌}
use mathlib.Core.Bool.{Bool, true, false, cond, ◌&&◌, and-true}
use mathlib.Core.List.{List, [], ◌∷◌}
use native.Mathlib.Omega.{arith}
use lib.ListN.{length, get_or, take, drop, replicate, length-drop}
use lib.Seq.{take_all, take-length}
use lib.Dec.{eqb, ltb}
use borrow.Author.Tests.{le-leb, lt-leb, ne_eqb, lt-ltb, eq-eqb}
use Rattle.digits.specs.Packed.{two, good_byte, good_field}
use Rattle.digits.proofs.Bools.{and_both}
use Rattle.digits.proofs.PackedLaws.{two-lt}
use Rattle.digits.specs.Halves.{bad_field, or_else}
use Rattle.layout.specs.Cells.{raw, digits, size, good_cells, decode}
use Rattle.layout.proofs.PlaceLaws.{first_bad-raws}
use Rattle.layout.specs.Checks.{first_fail}
use Rattle.stock_frame.specs.Format.{values_of, body_checks, body_half, body_answer, digit_answer}
use Rattle.stock_frame.proofs.BodyCheckLaws.{refused-answer, digit-answer}
use Rattle.layout.specs.Bytes.{bytes_over}
use Rattle.layout.proofs.CheckLaws.{pass}
use Rattle.answers.specs.declared.Answer.{Answer}
use Rattle.stock_notices.specs.Notices.{five, five_ruled, room, notice_of, no_notice, notice_reading}
use Rattle.stock_notices.specs.declared.Notice.{Notice}
use Rattle.stock_notices.specs.declared.NoticeReading.{NoticeReading}
use Rattle.stock_notices.proofs.RawLaws.{good-raws, decode-raws}
use Rattle.stock_notices.proofs.NoticeLaws.{size-five, text-put}

-- ---- the checks
-- a category's byte holds a field 9(2) where its halves are digits
pub good-category : (x : ℕ) → good_field 2 (x ∷ []) ≡ good_byte x
good-category x = go (good_byte x) refl
  where
    go : (g : Bool) → good_byte x ≡ g → ((g && true) && ltb (0 * 100 + two x) 100) ≡ g
    go true e = lt-ltb (0 * 100 + two x) 100 (omega (arith, two-lt x e))
    go false e = refl

-- a body too short
pub check-short : (b : List ℕ) → length b < 1 → first_fail (body_checks five b) ≡ 9
check-short b h = rw (lt-leb 14 (13 + length b) (omega arith))

-- a body too long
pub check-long : (b : List ℕ) → 61 < length b → first_fail (body_checks five b) ≡ 9
check-long b h = rw (le-leb 14 (13 + length b) (omega arith), lt-leb (13 + length b) 74 (omega arith))

-- a body that starts with the byte x
module _ (x : ℕ) (t : List ℕ) where
  -- the text is all that follows it
  text-here : suc (length t) - 1 ≡ length t
  text-here = omega arith

  -- its numbers
  pub values-here : values_of five (x ∷ t) ≡ two x ∷ t
  values-here =
      ap₂ (λ (v : ℕ) (l : List ℕ). v ∷ l) (omega arith)
      (ap (λ (n : ℕ). decode (replicate n raw) t) text-here ∙ decode-raws (length t) t (omega arith) ∙ take-length t)

  -- its cells take all its bytes
  size-here : size (five.cells (x ∷ t)) ≡ length (x ∷ t)
  size-here = omega (arith, size-five (suc (length t) - 1))

  -- only the category can have a bad digit
  good-here : good_cells (five.cells (x ∷ t)) (x ∷ t) ≡ good_byte x
  good-here = rw (good-category x, good-raws) (and-true (good_byte x))

  -- what is left of the checks within the range
  pub checks-here : length t ≤ room → first_fail (body_checks five (x ∷ t)) ≡ cond (good_byte x) (cond (five_ruled (two x ∷ [])) 0 13) 11
  checks-here h =
      let checks = body_checks five (x ∷ t) in
      let n = suc (length t) in
      pass 9 (drop 1 checks) (and_both (le-leb 14 (13 + n) (omega arith)) (le-leb (13 + n) 74 (omega arith)))
      ∙ pass 9 (drop 3 checks) (eq-eqb (size (five.cells (x ∷ t))) n size-here)
      ∙ ap₂ (λ (g u : Bool). cond g (cond {A = ℕ} u 0 13) 11) good-here (ap five_ruled values-here)

-- the numbers of a body, by its first byte
pub values-five : (b : List ℕ) → 1 ≤ length b → values_of five b ≡ two (get_or b 0 0) ∷ drop 1 b
values-five [] l = absurd (omega arith)
values-five (x ∷ t) l = values-here x t

-- a body in range, by its first byte
pub checks-five : (b : List ℕ) → 1 ≤ length b → length b ≤ 61
    → first_fail (body_checks five b) ≡ cond (good_byte (get_or b 0 0)) (cond (five_ruled (two (get_or b 0 0) ∷ [])) 0 13) 11
checks-five [] l h = absurd (omega arith)
checks-five (x ∷ t) l h = checks-here x t (omega arith)

-- ---- the answers
-- a refusal of a check that says the length
pub read-refused : (k seq : ℕ) (b : List ℕ) (r : NoticeReading) → 5 < k → eqb k 11 ≡ false → first_fail (body_checks five b) ≡ k
    → (r.answer ≡ Answer.Refused k (13 + length b) None) × (r.notice ≡ no_notice) → r ≡ notice_reading seq b
unfolding notice_reading
read-refused k seq b r h d e p =
    let z : eqb k 0 ≡ false = ne_eqb k 0 (λ z. omega arith) in
    ap₂ (λ (a : Answer) (n : Notice). record { answer = a; notice = n })
    (p.0 ∙ refused-answer five seq b k e z (lt-leb k 5 h) d)
    (p.1 ∙ sym (ap (λ (t : Bool). cond t (notice_of seq (values_of five b)) no_notice) (ap (λ (i : ℕ). eqb i 0) e ∙ z)))

-- a bad digit: only the category can have one
pub read-digit : (seq : ℕ) (b : List ℕ) (r : NoticeReading) → length b ≤ 61 → first_fail (body_checks five b) ≡ 11
    → (r.answer ≡ digit_answer (digits 2 ∷ []) b) × (r.notice ≡ no_notice) → r ≡ notice_reading seq b
unfolding notice_reading
read-digit seq b r h e p =
    ap₂ (λ (a : Answer) (n : Notice). record { answer = a; notice = n })
    (p.0 ∙ digit-answer five seq b (digits 2 ∷ []) (sym (ap (or_else (bad_field 2 body_half (take 1 b))) (first_bad-raws (length b - 1) (body_half + 2) (drop 1 b)))) (omega arith) e)
    (p.1 ∙ sym (ap (λ (i : ℕ). cond (eqb i 0) (notice_of seq (values_of five b)) no_notice) e))

-- each check's test
module _ (b : List ℕ) (l : 1 ≤ length b) (h : length b ≤ 61) where
  -- a bad high half
  pub check-high : 9 < get_or b 0 0 / 16 → first_fail (body_checks five b) ≡ 11
  check-high g = checks-five b l h ∙ rw (lt-leb (get_or b 0 0 / 16) 9 g)

  -- a bad low half
  pub check-low : get_or b 0 0 / 16 ≤ 9 → 9 < get_or b 0 0 % 16 → first_fail (body_checks five b) ≡ 11
  check-low g k = checks-five b l h ∙ rw (le-leb (get_or b 0 0 / 16) 9 g, lt-leb (get_or b 0 0 % 16) 9 k)

  module _ (g : get_or b 0 0 / 16 ≤ 9) (k : get_or b 0 0 % 16 ≤ 9) where
    -- no bad half
    good-first : good_byte (get_or b 0 0) ≡ true
    good-first = and_both (le-leb (get_or b 0 0 / 16) 9 g) (le-leb (get_or b 0 0 % 16) 9 k)

    -- a category that is none of the four
    pub check-unknown : five_ruled (two (get_or b 0 0) ∷ []) ≡ false → first_fail (body_checks five b) ≡ 13
    check-unknown u = checks-five b l h ∙ rw (good-first, u)

    -- no check fails
    pub check-none : five_ruled (two (get_or b 0 0) ∷ []) ≡ true → first_fail (body_checks five b) ≡ 0
    check-none u = checks-five b l h ∙ rw (good-first, u)

-- ---- acceptance: the notice of the first byte's number and of the bytes that follow it
-- the reading where no check fails
pub read-accepted : (seq : ℕ) (b z t : List ℕ) → 1 ≤ length b → length b ≤ 61 → first_fail (body_checks five b) ≡ 0
    → z ≡ replicate room 0 → t ≡ bytes_over (take (length b - 1) (drop 1 b)) z 0
    → record {
      answer = Answer.Accepted (record { format = 5; seq = seq; length = 13 + length b });
      notice = record { seq = seq; category = two (get_or b 0 0); length = length b - 1; text = t };
    }
    ≡ notice_reading seq b
unfolding notice_reading body_answer
read-accepted seq b z t l h e q p =
    let n : length (drop 1 b) ≡ length b - 1 = length-drop 1 b in
    let notice : record { seq = seq; category = two (get_or b 0 0); length = length b - 1; text = t } ≡ notice_of seq (values_of five b) =
    ap₂ (λ (k : ℕ) (x : List ℕ). record { seq = seq; category = two (get_or b 0 0); length = k; text = x })
    (sym n) (p ∙ ap₂ (λ (x y : List ℕ). bytes_over x y 0) (take_all (length b - 1) (drop 1 b) (omega arith)) q ∙ text-put (drop 1 b) room (omega arith))
    ∙ sym (ap (notice_of seq) (values-five b l)) in
    rw e (ap (λ (m : Notice). record { answer = Answer.Accepted (record { format = 5; seq = seq; length = 13 + length b }); notice = m }) notice)
