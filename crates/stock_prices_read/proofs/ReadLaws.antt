-- What reading a body answers: the check that fails first, and the prices where every check holds.
use Rattle.std.specs.Prelude.{None}
use Prim.Native.Nat.{ℕ, ◌+◌, ◌*◌, ◌/◌, ◌%◌, ◌<◌}
use mathlib.Core.Path.{◌≡◌, refl, sym, ap, ap₂, ◌∙◌}
use mathlib.Core.Bool.{Bool, true, false, cond, ◌&&◌, and-true}
use mathlib.Core.List.{List, [], ◌∷◌}
use native.Mathlib.Omega.{arith}
use lib.ListN.{length, get_or, take, drop}
use lib.Seq.{drop-cons}
use lib.Dec.{eqb, leb, ltb, lit<}
use borrow.Author.Tests.{eq-eqb, ne_eqb, lt-leb, lt-ltb, le-ltb, leb-true, leb-false}
use Rattle.digits.specs.Packed.{good_byte, good_field, value}
use Rattle.digits.proofs.Bools.{and_both}
use Rattle.digits.proofs.Values.{even-field}
use Rattle.layout.specs.Cells.{size, good_cells, decode}
use Rattle.layout.specs.Checks.{first_fail}
use Rattle.answers.specs.Answers.{named}
use Rattle.answers.specs.declared.Answer.{Answer}
use Rattle.answers.specs.declared.Frame.{Frame}
use Rattle.stock_frame.specs.Format.{ranged, body_checks, body_place, body_answer, digit_answer}
use Rattle.stock_frame.proofs.BodyCheckLaws.{fails-range, fails-digits, fails-times, fails-fields, fails-none, refused-answer, digit-answer}
use Rattle.stock_prices.specs.declared.Slot.{Slot}
use Rattle.stock_prices.specs.declared.PricesReading.{PricesReading}
use Rattle.stock_prices.specs.Prices.{slots_pass, slot_timed, slot_ruled, twelve, twelve_cells, twelve_ruled, prices_of, no_prices, prices_reading}
use Rattle.stock_prices.proofs.AndLaws.{none, later}
use Rattle.stock_prices.proofs.PriceLaws.{size-slots_cells}
use Rattle.stock_prices_read.specs.Steps.{refusal, without_prices, acceptance, row_of}
use Rattle.stock_prices_read.proofs.SlotsRead.{good_from, slots_from, pass_from}

-- the frame of a body
abbrev frame : ℕ → List ℕ → Frame
frame seq b = record { format = 12; seq = seq; length = 13 + length b }

-- a reading by the number of the check that fails first
reading-by : (seq : ℕ) (b : List ℕ) (n : ℕ) → first_fail (body_checks twelve b) ≡ n
    → record { answer = named n (frame seq b) (body_place twelve b n); prices = cond (eqb n 0) (prices_of seq (decode twelve_cells b)) no_prices } ≡ prices_reading seq b
unfolding prices_reading body_answer
reading-by seq b n e =
    ap (λ (k : ℕ). record { answer = named k (frame seq b) (body_place twelve b k); prices = cond (eqb k 0) (prices_of seq (decode twelve_cells b)) no_prices }) (sym e)

-- a refusal hands no prices on
answered-as : (seq : ℕ) (b : List ℕ) (a : Answer) → a ≡ body_answer twelve seq b → eqb (first_fail (body_checks twelve b)) 0 ≡ false
    → record { answer = a; prices = no_prices } ≡ prices_reading seq b
unfolding prices_reading
answered-as seq b a e z =
    ap₂ (λ (x : Answer) (t : Bool). record { answer = x; prices = cond t (prices_of seq (decode twelve_cells b)) no_prices }) e (sym z)

pub refused_as : (seq : ℕ) (b : List ℕ) (n len : ℕ) → 5 < n → (n ≡ 11 → ⊥) → 13 + length b ≡ len → first_fail (body_checks twelve b) ≡ n
    → (r : PricesReading) → r ≡ refusal n len → r ≡ prices_reading seq b
refused_as seq b n len h d e f r q =
    let z : eqb n 0 ≡ false = ne_eqb n 0 (λ z. omega (arith, z)) in
    q ∙ ap (refusal n) (sym e)
    ∙ answered-as seq b (Answer.Refused n (13 + length b) None) (refused-answer twelve seq b n f z (lt-leb n 5 h) (ne_eqb n 11 d)) (ap (λ (k : ℕ). eqb k 0) f ∙ z)

pub digit-as : (seq : ℕ) (b : List ℕ) → length b ≡ 361 → first_fail (body_checks twelve b) ≡ 11 → without_prices (digit_answer twelve_cells b) ≡ prices_reading seq b
digit-as seq b l f = answered-as seq b (digit_answer twelve_cells b) (digit-answer twelve seq b twelve_cells refl (omega (arith, l)) f) (ap (λ (k : ℕ). eqb k 0) f)

-- the numbers in a body
abbrev numbers : List ℕ → List ℕ
numbers b = decode twelve_cells b

module _ (b : List ℕ) where
  -- the count's byte
  abbrev head : ℕ
  head = get_or b 0 0

  pub wrong-length : (length b ≡ 361 → ⊥) → first_fail (body_checks twelve b) ≡ 9
  wrong-length h = fails-range twelve b (go (leb 374 (13 + length b)) refl)
    where
      go : (t : Bool) → leb 374 (13 + length b) ≡ t → (t && leb (13 + length b) 374) ≡ false
      go false q = refl
      go true q = lt-leb (13 + length b) 374 (omega (arith, leb-true 374 (13 + length b) q))

  module _ (l : length b ≡ 361) where
    in-range : ranged twelve (length b) ≡ true
    in-range = ap (ranged twelve) l

    whole : size twelve_cells ≡ 361
    whole = ap (λ (n : ℕ). 1 + n) (size-slots_cells 10)

    sized : eqb (size twelve_cells) (length b) ≡ true
    sized = eq-eqb (size twelve_cells) (length b) (whole ∙ sym l)

    first_byte : take 1 b ≡ head ∷ []
    first_byte = ap (take 1) (drop-cons b 0 0 (omega arith))

    count-good : good_field 2 (take 1 b) ≡ good_byte head
    count-good = ap (good_field 2) first_byte ∙ even-field 2 (head ∷ []) refl ∙ and-true (good_byte head)

    good-is : good_cells twelve_cells b ≡ (good_byte head && good_from b 10 1)
    good-is = ap (λ (t : Bool). t && good_from b 10 1) count-good

    pub bad-count : good_byte head ≡ false → first_fail (body_checks twelve b) ≡ 11
    bad-count e = fails-digits twelve b in-range refl sized (good-is ∙ none (good_from b 10 1) e)

    -- the count
    abbrev n : ℕ
    n = head / 16 * 10 + head % 16

    count-is : get_or (numbers b) 0 0 ≡ n
    count-is = ap value first_byte ∙ omega arith

    pass-is : (p : Bool → List ℕ → Bool) → slots_pass p 10 (get_or (numbers b) 0 0) (drop 1 (numbers b)) ≡ pass_from b p 10 n 1
    pass-is p = ap (λ (k : ℕ). slots_pass p 10 k (drop 1 (numbers b))) count-is

    ruled-is : twelve_ruled (numbers b) ≡ ((leb 1 n && leb n 10) && pass_from b slot_ruled 10 n 1)
    ruled-is = ap₂ (λ (k : ℕ) (t : Bool). (leb 1 k && leb k 10) && t) count-is (pass-is slot_ruled)

    -- where the count's digits are good, the check that fails is the one of what the slots told
    module _ (good-head : good_byte head ≡ true) where
      module _ (g : good_from b 10 1 ≡ true) where
        good-all : good_cells twelve_cells b ≡ true
        good-all = good-is ∙ and_both good-head g

        module _ (t : pass_from b slot_timed 10 n 1 ≡ true) where
          fields_told : (x : Bool) → ((leb 1 n && leb n 10) && pass_from b slot_ruled 10 n 1) ≡ x → first_fail (body_checks twelve b) ≡ cond x 0 13
          fields_told true f = fails-none twelve b in-range refl sized good-all (pass-is slot_timed ∙ t) (ruled-is ∙ f)
          fields_told false f = fails-fields twelve b in-range refl sized good-all (pass-is slot_timed ∙ t) (ruled-is ∙ f)

      pub bad-slots : good_from b 10 1 ≡ false → first_fail (body_checks twelve b) ≡ 11
      bad-slots e = fails-digits twelve b in-range refl sized (good-is ∙ later good-head e)

      pub check-told : good_from b 10 1 ≡ true → (t r : Bool) → t ≡ pass_from b slot_timed 10 n 1 → r ≡ pass_from b slot_ruled 10 n 1
          → first_fail (body_checks twelve b) ≡ row_of t n r
      check-told g false r e f = fails-times twelve b in-range refl sized (good-all g) (pass-is slot_timed ∙ sym e)
      check-told g true r e f =
          fields_told g (sym e) ((leb 1 n && leb n 10) && r) (ap (λ (x : Bool). (leb 1 n && leb n 10) && x) (sym f))

    pub accepted : (seq : ℕ) (ss : List Slot) → ss ≡ slots_from b 10 1 → first_fail (body_checks twelve b) ≡ 0 → acceptance seq n ss ≡ prices_reading seq b
    accepted seq ss e f =
        ap₂ (λ (len k : ℕ). record { answer = Answer.Accepted (record { format = 12; seq = seq; length = len }); prices = record { seq = seq; count = k; slots = ss } })
        (sym (ap (λ (k : ℕ). 13 + k) l)) (sym count-is)
        ∙ ap (λ (x : List Slot). record { answer = Answer.Accepted (frame seq b); prices = record { seq = seq; count = get_or (numbers b) 0 0; slots = x } }) e
        ∙ reading-by seq b 0 f

-- ---- the checks that what the slots told can fail
pub check-high : (t : Bool) (n : ℕ) (r : Bool) → 0 < row_of t n r → 11 < row_of t n r
check-high false n r h = lit< tt
check-high true n r h = go ((leb 1 n && leb n 10) && r) h
  where
    go : (x : Bool) → 0 < cond x 0 13 → 11 < cond x 0 13
    go true k = absurd (omega (arith, k))
    go false k = lit< tt

pub check-fields : {t : Bool} (n : ℕ) (r : Bool) → t ≡ true → {x : Bool} → ((leb 1 n && leb n 10) && r) ≡ x → cond x 0 13 ≡ row_of t n r
check-fields {t} n r f {x} h = sym (ap (λ (v : Bool). cond v (cond ((leb 1 n && leb n 10) && r) 0 13) 12) f ∙ ap (λ (y : Bool). cond y 0 13) h)

-- ---- a digit
pub under-ten : (d : ℕ) → ltb d 10 ≡ leb d 9
under-ten d = go (leb d 9) refl
  where
    go : (t : Bool) → leb d 9 ≡ t → ltb d 10 ≡ t
    go true e = lt-ltb d 10 (omega (arith, leb-true d 9 e))
    go false e = le-ltb d 10 (omega (arith, leb-false d 9 e))
