-- Laws of the first bad half: none is told exactly where the digits are good, it is the lowest, where it lies, and that reading a field tells it.
use Rattle.std.specs.Prelude.{Err, None, Ok, Option, Result, Some}
use Prim.Native.Nat.{ℕ, zero, suc, ◌+◌, ◌-◌, ◌*◌, ◌/◌, ◌%◌, ◌^◌, ◌≤◌, ◌<◌}
use mathlib.Core.Path.{◌≡◌, refl, sym, ap, ap₂, ◌∙◌}
use mathlib.Core.Bool.{Bool, true, false, cond, ◌&&◌, ◌||◌}
use mathlib.Core.List.{List, [], ◌∷◌}
use mathlib.Core.Logic.{◌↔◌}
use native.Mathlib.Omega.{arith}
use native.Mathlib.Nat.{pow-suc}
use lib.Dec.{eqb, leb, ltb}
use lib.ListN.{length, get_or}
use borrow.Author.Tests.{leb-true, leb-false, le-leb, lt-leb, ltb-true, ltb-false, lt-ltb, le-ltb, eqb-true, eqb-false}
use Rattle.digits.specs.Packed.{width, good, two, value_from, good_field}
use Rattle.digits.specs.Fields.{field_from}
use Rattle.digits.specs.Halves.{bad_from, bad_lead, bad_field, is_none, behind, or_else, half_at, is_bad, Lowest}
use Rattle.digits.proofs.Bools.{no_false}
use Rattle.digits.proofs.PackedLaws.{hundred-pow}
use Rattle.digits.proofs.Values.{even-field, odd-field}
use Rattle.digits.specs.declared.fields.FieldError.{FieldError}

-- ---- none is told exactly where the digits are good
-- a test and its other side
not-above : (a b : ℕ) → ltb a b ≡ cond (leb b a) false true
not-above a b = go (leb b a) refl
  where
    go : (t : Bool) → leb b a ≡ t → ltb a b ≡ cond t false true
    go true e = le-ltb a b (leb-true b a e)
    go false e = lt-ltb a b (leb-false b a e)

pub bad_from-none : (p : ℕ) (bs : List ℕ) → is_none (bad_from p bs) ≡ good bs
bad_from-none p [] = refl
bad_from-none p (b ∷ bs) =
    ap₂ (λ (x y : Bool). is_none (cond x (Some p) (cond y (Some (p + 1)) (bad_from (p + 2) bs)))) (not-above 9 (b / 16)) (not-above 9 (b % 16))
    ∙ go (leb (b / 16) 9) (leb (b % 16) 9) (bad_from-none (p + 2) bs)
  where
    go : (x y : Bool) → is_none (bad_from (p + 2) bs) ≡ good bs
        → is_none (cond (cond x false true) (Some p) (cond (cond y false true) (Some (p + 1)) (bad_from (p + 2) bs))) ≡ ((x && y) && good bs)
    go true true ih = ih
    go true false ih = refl
    go false y ih = refl

-- of a field 9(n) in all the bytes that it takes
pub bad_field-none : (n p : ℕ) (bs : List ℕ) → length bs ≡ width n → is_none (bad_field n p bs) ≡ good_field n bs
bad_field-none n p bs l = go (eqb (n % 2) 1) refl bs l
  where
    lead : (b : ℕ) (x : Bool) → leb b 9 ≡ x → (t : Bool) → ltb 0 (b / 16) ≡ t → (more : List ℕ)
        → is_none (cond t (Some p) (bad_from p (b ∷ more))) ≡ (x && good more)
    lead b true e true f more = absurd (omega (arith, leb-true b 9 e, ltb-true 0 (b / 16) f))
    lead b true e false f more =
        bad_from-none p (b ∷ more)
        ∙ ap (λ (y : Bool). y && good more) (ap₂ ◌&&◌ (le-leb (b / 16) 9 (omega (arith, leb-true b 9 e))) (le-leb (b % 16) 9 (omega (arith, leb-true b 9 e))))
    lead b false e true f more = refl
    lead b false e false f more =
        bad_from-none p (b ∷ more)
        ∙ ap (λ (y : Bool). y && good more)
        (ap₂ ◌&&◌ (le-leb (b / 16) 9 (omega (arith, ltb-false 0 (b / 16) f))) (lt-leb (b % 16) 9 (omega (arith, leb-false b 9 e, ltb-false 0 (b / 16) f))))

    go : (t : Bool) → eqb (n % 2) 1 ≡ t → (cs : List ℕ) → length cs ≡ width n
        → is_none (cond (t && ltb 0 (get_or cs 0 0 / 16)) (Some p) (bad_from p cs)) ≡ good_field n cs
    go false e cs k =
        let even : n ≡ length cs + length cs = omega (arith, k, eqb-false (n % 2) 1 e) in
        bad_from-none p cs ∙ sym (even-field n cs (ap (λ (x : ℕ). 10 ^ x) even ∙ sym (hundred-pow (length cs))))
    go true e [] k = absurd (omega (arith, k, eqb-true (n % 2) 1 e))
    go true e (b ∷ more) k =
        let odd : n ≡ suc (length more + length more) = omega (arith, k, eqb-true (n % 2) 1 e) in
        lead b (leb b 9) refl (ltb 0 (b / 16)) refl more
        ∙ sym (odd-field n b more
        (ap (λ (x : ℕ). 10 ^ x) odd ∙ pow-suc 10 (length more + length more) ∙ ap (λ (x : ℕ). x * 10) (sym (hundred-pow (length more))) ∙ omega arith))

-- ---- more halves before it
cond-behind : (k : ℕ) (t : Bool) (x y : Option ℕ) → cond t (behind k x) (behind k y) ≡ behind k (cond t x y)
cond-behind k true x y = refl
cond-behind k false x y = refl

pub bad_from-behind : (k p : ℕ) (bs : List ℕ) → bad_from (k + p) bs ≡ behind k (bad_from p bs)
bad_from-behind k p [] = refl
bad_from-behind k p (b ∷ bs) =
    let one : k + p + 1 ≡ k + (p + 1) = omega arith in
    let two : k + p + 2 ≡ k + (p + 2) = omega arith in
    (λ i. cond (ltb 9 (b / 16)) (Some (k + p)) (cond (ltb 9 (b % 16)) (Some (one i)) (bad_from (two i) bs)))
    ∙ ap (λ (x : Option ℕ). cond (ltb 9 (b / 16)) (Some (k + p)) (cond (ltb 9 (b % 16)) (Some (k + (p + 1))) x)) (bad_from-behind k (p + 2) bs)
    ∙ ap (cond (ltb 9 (b / 16)) (Some (k + p))) (cond-behind k (ltb 9 (b % 16)) (Some (p + 1)) (bad_from (p + 2) bs))
    ∙ cond-behind k (ltb 9 (b / 16)) (Some p) (cond (ltb 9 (b % 16)) (Some (p + 1)) (bad_from (p + 2) bs))

pub bad_field-behind : (n k p : ℕ) (bs : List ℕ) → bad_field n (k + p) bs ≡ behind k (bad_field n p bs)
bad_field-behind n k p bs = ap (cond (bad_lead n bs) (Some (k + p))) (bad_from-behind k p bs) ∙ cond-behind k (bad_lead n bs) (Some p) (bad_from p bs)

-- ---- the lowest
-- of two stretches, the first of m halves
pub lowest-either : (f g h : ℕ → Bool) (p m : ℕ) (x y : Option ℕ) → Lowest f p x → Lowest g (p + m) y
    → ((q : ℕ) → q < m → h q ≡ f q) → ((q : ℕ) → m ≤ q → h q ≡ g (q - m)) → ((q : ℕ) → f q ≡ true → q < m) → Lowest h p (or_else x y)
lowest-either f g h p m None None lf lg low high inside = λ q. each q (ltb q m) refl
  where
    each : (q : ℕ) (t : Bool) → ltb q m ≡ t → h q ≡ false
    each q true e = low q (ltb-true q m e) ∙ lf q
    each q false e = high q (ltb-false q m e) ∙ lg (q - m)
lowest-either f g h p m None (Some k) lf lg low high inside =
    let le = lg.0 in
    let e : k - p - m ≡ k - (p + m) = omega arith in
    (omega arith, high (k - p) (omega arith) ∙ ap g e ∙ lg.1, λ q lt. each q lt (ltb q m) refl)
  where
    each : (q : ℕ) → q < k - p → (t : Bool) → ltb q m ≡ t → h q ≡ false
    each q lt true e = low q (ltb-true q m e) ∙ lf q
    each q lt false e = high q (ltb-false q m e) ∙ lg.2 (q - m) (omega (arith, ltb-false q m e, lg.0))
lowest-either f g h p m (Some k) y lf lg low high inside =
    let n = inside (k - p) lf.1 in
    (lf.0, low (k - p) n ∙ lf.1, λ q lt. low q (omega (arith, n)) ∙ lf.2 q lt)

-- a half of the bytes behind the first
half-later : (b : ℕ) (bs : List ℕ) (q : ℕ) → 2 ≤ q → half_at (b ∷ bs) q ≡ half_at bs (q - 2)
half-later b bs q h =
    let d : q / 2 ≡ suc ((q - 2) / 2) = omega arith in
    let m : q % 2 ≡ (q - 2) % 2 = omega arith in
    (λ i. cond (eqb (m i) 0) (get_or (b ∷ bs) (d i) 0 / 16) (get_or (b ∷ bs) (d i) 0 % 16))

-- no half of no bytes is bad
half-none : (q : ℕ) → ltb 9 (half_at [] q) ≡ false
half-none q = go (eqb (q % 2) 0)
  where
    go : (t : Bool) → ltb 9 (cond t 0 0) ≡ false
    go true = refl
    go false = refl

pub bad_from-lowest : (p : ℕ) (bs : List ℕ) → Lowest (λ q. ltb 9 (half_at bs q)) p (bad_from p bs)
bad_from-lowest p [] = half-none
bad_from-lowest p (b ∷ bs) = go (ltb 9 (b / 16)) (ltb 9 (b % 16)) refl refl (bad_from-lowest (p + 2) bs)
  where
    none : (x y : Bool) → ltb 9 (b / 16) ≡ false → ltb 9 (b % 16) ≡ false → (q : ℕ) → q < 2 → ltb 9 (half_at (b ∷ bs) q) ≡ false
    none x y e f zero h = e
    none x y e f (suc zero) h = f
    none x y e f (suc (suc q)) h = absurd (omega arith)

    go : (x y : Bool) → ltb 9 (b / 16) ≡ x → ltb 9 (b % 16) ≡ y → Lowest (λ q. ltb 9 (half_at bs q)) (p + 2) (bad_from (p + 2) bs)
        → Lowest (λ q. ltb 9 (half_at (b ∷ bs) q)) p (cond x (Some p) (cond y (Some (p + 1)) (bad_from (p + 2) bs)))
    go true y e f ih =
        let z : p - p ≡ 0 = omega arith in
        (omega arith, ap (λ (q : ℕ). ltb 9 (half_at (b ∷ bs) q)) z ∙ e, λ q lt. absurd (omega arith))
    go false true e f ih =
        let z : p + 1 - p ≡ 1 = omega arith in
        (omega arith, ap (λ (q : ℕ). ltb 9 (half_at (b ∷ bs) q)) z ∙ f, λ q lt. let w : q ≡ 0 = omega arith in ap (λ (q : ℕ). ltb 9 (half_at (b ∷ bs) q)) w ∙ e)
    go false false e f ih =
        lowest-either (λ q. false) (λ q. ltb 9 (half_at bs q)) (λ q. ltb 9 (half_at (b ∷ bs) q)) p 2 None (bad_from (p + 2) bs) (λ q. refl) ih
        (λ q h. none true true e f q h) (λ q h. ap (ltb 9) (half-later b bs q h)) (λ q h. absurd (no_false h))

-- of a field 9(n): the lowest half that is no digit there
pub bad_field-lowest : (n p : ℕ) (bs : List ℕ) → Lowest (is_bad n bs) p (bad_field n p bs)
bad_field-lowest n p bs = go (bad_lead n bs) refl (bad_from p bs) (bad_from-lowest p bs)
  where
    or-true : (x : Bool) → (x || true) ≡ true
    or-true true = refl
    or-true false = refl

    or-false : (x : Bool) → (x || false) ≡ x
    or-false true = refl
    or-false false = refl

    same : bad_lead n bs ≡ false → (q : ℕ) → is_bad n bs q ≡ ltb 9 (half_at bs q)
    same e q = ap (λ (t : Bool). ltb 9 (half_at bs q) || (eqb q 0 && t)) e ∙ off (eqb q 0) (ltb 9 (half_at bs q))
      where
        off : (t x : Bool) → (x || (t && false)) ≡ x
        off true x = or-false x
        off false x = or-false x

    keep : bad_lead n bs ≡ false → (x : Option ℕ) → Lowest (λ q. ltb 9 (half_at bs q)) p x → Lowest (is_bad n bs) p x
    keep e None l = λ q. same e q ∙ l q
    keep e (Some k) l = (l.0, same e (k - p) ∙ l.1, λ q h. same e q ∙ l.2 q h)

    go : (t : Bool) → bad_lead n bs ≡ t → (x : Option ℕ) → Lowest (λ q. ltb 9 (half_at bs q)) p x → Lowest (is_bad n bs) p (cond t (Some p) x)
    go true e x l =
        let z : p - p ≡ 0 = omega arith in
        (omega arith, ap (is_bad n bs) z ∙ ap (λ (t : Bool). ltb 9 (half_at bs 0) || t) e ∙ or-true (ltb 9 (half_at bs 0)), λ q lt. absurd (omega arith))
    go false e x l = keep e x l

-- a bad half lies within the bytes
byte-none : (bs : List ℕ) (i : ℕ) → length bs ≤ i → get_or bs i 0 ≡ 0
byte-none [] i h = refl
byte-none (b ∷ bs) zero h = absurd (omega arith)
byte-none (b ∷ bs) (suc i) h = byte-none bs i (omega arith)

pub bad-inside : (n : ℕ) (bs : List ℕ) (q : ℕ) → is_bad n bs q ≡ true → q < 2 * length bs
bad-inside n bs q h = go (leb (2 * length bs) q) refl
  where
    outside : 2 * length bs ≤ q → is_bad n bs q ≡ false
    outside l = none (eqb (q % 2) 0) (byte-none bs (q / 2) (omega arith)) (eqb q 0) refl
      where
        lead : (t : Bool) → eqb q 0 ≡ t → (t && bad_lead n bs) ≡ false
        lead false e = refl
        lead true e = off bs (omega (arith, l, eqb-true q 0 e))
          where
            off : (cs : List ℕ) → length cs ≤ 0 → bad_lead n cs ≡ false
            off [] z = none-odd (eqb (n % 2) 1)
              where
                none-odd : (u : Bool) → (u && false) ≡ false
                none-odd true = refl
                none-odd false = refl
            off (c ∷ cs) z = absurd (omega arith)

        none : (t : Bool) → get_or bs (q / 2) 0 ≡ 0 → (u : Bool) → eqb q 0 ≡ u
            → (ltb 9 (cond t (get_or bs (q / 2) 0 / 16) (get_or bs (q / 2) 0 % 16)) || (u && bad_lead n bs)) ≡ false
        none true e u f = ap₂ ◌||◌ (ap (λ (b : ℕ). ltb 9 (b / 16)) e) (lead u f)
        none false e u f = ap₂ ◌||◌ (ap (λ (b : ℕ). ltb 9 (b % 16)) e) (lead u f)

    go : (t : Bool) → leb (2 * length bs) q ≡ t → q < 2 * length bs
    go true e = absurd (no_false (sym (outside (leb-true (2 * length bs) q e)) ∙ h))
    go false e = leb-false (2 * length bs) q e

-- ---- a field that is read
-- what reading tells of the first bad half and of the number
abbrev pub told_by : Option ℕ → ℕ → Result ℕ FieldError
told_by None v = Ok v
told_by (Some q) v = Err (FieldError.Bad q)

pub field_from-told : (v p : ℕ) (bs : List ℕ) → field_from v p bs ≡ told_by (bad_from p bs) (value_from v bs)
field_from-told v p [] = refl
field_from-told v p (b ∷ bs) = go (ltb 9 (b / 16)) (ltb 9 (b % 16)) (field_from-told (v * 100 + two b) (p + 2) bs)
  where
    go : (x y : Bool) → field_from (v * 100 + two b) (p + 2) bs ≡ told_by (bad_from (p + 2) bs) (value_from (v * 100 + two b) bs)
        → cond x (Err (FieldError.Bad p)) (cond y (Err (FieldError.Bad (p + 1))) (field_from (v * 100 + two b) (p + 2) bs))
        ≡ told_by (cond x (Some p) (cond y (Some (p + 1)) (bad_from (p + 2) bs))) (value_from (v * 100 + two b) bs)
    go true y ih = refl
    go false true ih = refl
    go false false ih = ih

-- it tells a bad half exactly where that is the first one, and a number exactly where there is none
pub bad-exactly : (v p q : ℕ) (bs : List ℕ) → (field_from v p bs ≡ Err (FieldError.Bad q)) ↔ (bad_from p bs ≡ Some q)
bad-exactly v p q bs = (λ e. to (bad_from p bs) (sym (field_from-told v p bs) ∙ e), λ e. field_from-told v p bs ∙ ap (λ (x : Option ℕ). told_by x (value_from v bs)) e)
  where
    to : (x : Option ℕ) → told_by x (value_from v bs) ≡ Err (FieldError.Bad q) → x ≡ Some q
    to None e = cc
    to (Some k) e = cc

pub number-exactly : (v p : ℕ) (bs : List ℕ) → (field_from v p bs ≡ Ok (value_from v bs)) ↔ (bad_from p bs ≡ None)
number-exactly v p bs = (λ e. to (bad_from p bs) (sym (field_from-told v p bs) ∙ e), λ e. field_from-told v p bs ∙ ap (λ (x : Option ℕ). told_by x (value_from v bs)) e)
  where
    to : (x : Option ℕ) → told_by x (value_from v bs) ≡ Ok (value_from v bs) → x ≡ None
    to None e = refl
    to (Some k) e = cc
