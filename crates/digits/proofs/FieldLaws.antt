-- What the answers of reading and writing a field tell, and that a field written is the field read.
use Rattle.std.specs.Prelude.{Err, Ok, Result, ⊤}
use Prim.Native.Nat.{ℕ, ◌+◌, ◌*◌, ◌/◌, ◌%◌, ◌^◌, ◌≤◌, ◌<◌}
use mathlib.Core.Bool.{Bool, true, false, cond, ◌&&◌}
use mathlib.Core.List.{List, [], ◌∷◌, ◌++◌}
use mathlib.Core.Path.{◌≡◌, refl, ap, sym, ◌∙◌}
use native.Mathlib.Omega.{arith}
use borrow.Author.Tests.{leb-true, leb-false, ltb-true, lt-ltb}
use lib.Dec.{leb, ltb}
use lib.ListN.{length, take, drop, length-append}
use lib.Seq.{sets, sets-eq, length-sets, length-take-le, drop-append-le, drop_at, take_at}
use Rattle.digits.specs.Packed.{good_byte, good, two, value_from, value, packed}
use Rattle.digits.specs.Fields.{within, field_from, field_at, put_answer, put_at}
use Rattle.digits.proofs.Within.{within_all}
use Rattle.digits.proofs.ReadSteps.{bad-high, bad-low, good-next}
use Rattle.digits.proofs.Bools.{both_true}
use Rattle.digits.proofs.PackedLaws.{good-halves, length-packed, good-packed, value-packed}
use Rattle.digits.specs.declared.fields.FieldError.{FieldError}
use Rattle.digits.specs.declared.fields.PutError.{PutError}

-- within tells both bounds
pub within-so : (s : List ℕ) (at n : ℕ) → within s at n ≡ true → (n ≤ 9) × (at + n ≤ length s)
within-so s at n h =
    let g = both_true (leb n 9) (leb (at + n) (length s)) h in
    (leb-true n 9 g.0, leb-true (at + n) (length s) g.1)

-- good digits are read as their number
pub field_from-good : (v p : ℕ) (bs : List ℕ) → good bs ≡ true → field_from v p bs ≡ Ok (value_from v bs)
field_from-good v p [] h = refl
field_from-good v p (b ∷ bs) h =
    let g = both_true (good_byte b) (good bs) h in
    let t = good-halves b g.0 in
    good-next v p b bs t.0 t.1 ∙ field_from-good (v * 100 + two b) (p + 2) bs g.1

-- what is read as a number has good digits, and is their number
pub field_from-value : (v p x : ℕ) (bs : List ℕ) → field_from v p bs ≡ Ok x → (good bs ≡ true) × (value_from v bs ≡ x)
field_from-value v p x [] h = (refl, cc)
field_from-value v p x (b ∷ bs) h = high (leb (b / 16) 9) refl (field_from-value (v * 100 + two b) (p + 2) x bs)
  where
    IH : Type 0
    IH = field_from (v * 100 + two b) (p + 2) bs ≡ Ok x → (good bs ≡ true) × (value_from (v * 100 + two b) bs ≡ x)

    low : (t : Bool) → leb (b % 16) 9 ≡ t → b / 16 ≤ 9
        → IH → ((t && good bs) ≡ true) × (value_from (v * 100 + two b) bs ≡ x)
    low true q l ih = ih (sym (good-next v p b bs l (leb-true (b % 16) 9 q)) ∙ h)
    low false q l ih = let z = sym (bad-low v p b bs l (leb-false (b % 16) 9 q)) ∙ h in (cc, cc)

    high : (t : Bool) → leb (b / 16) 9 ≡ t
        → IH → (((t && leb (b % 16) 9) && good bs) ≡ true) × (value_from (v * 100 + two b) bs ≡ x)
    high true q ih = low (leb (b % 16) 9) refl (leb-true (b / 16) 9 q) ih
    high false q ih = let z = sym (bad-high v p b bs (leb-false (b / 16) 9 q)) ∙ h in (cc, cc)

-- good digits at a place are read as their number
pub field_at-good : (s : List ℕ) (at n : ℕ) → n ≤ 9 → at + n ≤ length s → good (take n (drop at s)) ≡ true
    → field_at s at n ≡ Ok (value (take n (drop at s)))
field_at-good s at n w h g = rw (within_all s at n w h) (field_from-good 0 0 (take n (drop at s)) g)

-- what is read at a place as a number lies within the bytes, has good digits, and is their number
pub field_at-value : (s : List ℕ) (at n x : ℕ) → field_at s at n ≡ Ok x
    → (n ≤ 9) × (at + n ≤ length s) × (good (take n (drop at s)) ≡ true) × (value (take n (drop at s)) ≡ x)
field_at-value s at n x h = go (within s at n) refl h
  where
    go : (t : Bool) → within s at n ≡ t → cond t (field_from 0 0 (take n (drop at s))) (Err FieldError.Outside) ≡ Ok x
        → (n ≤ 9) × (at + n ≤ length s) × (good (take n (drop at s)) ≡ true) × (value (take n (drop at s)) ≡ x)
    go true q k =
        let g = field_from-value 0 0 x (take n (drop at s)) k in
        let i = within-so s at n q in
        (i.0, i.1, g.0, g.1)
    go false q k = let z : ◌≡◌ {A = ℕ} 0 1 = cc in (omega arith, omega arith, cc, cc)

-- a number that fits is written
pub put-fits : (v n : ℕ) (s : List ℕ) (at : ℕ) → n ≤ 9 → at + n ≤ length s → v < 100 ^ n
    → (put_answer v n s at ≡ Ok tt) × (put_at v n s at ≡ sets s at (packed n v))
put-fits v n s at w h l = rw (within_all s at n w h, lt-ltb v (100 ^ n) l) (refl, refl)

-- what is told where a number is written
pub put-done : (v n : ℕ) (s : List ℕ) (at : ℕ) → put_answer v n s at ≡ Ok tt
    → (n ≤ 9) × (at + n ≤ length s) × (v < 100 ^ n) × (put_at v n s at ≡ sets s at (packed n v))
put-done v n s at h = go (within s at n) (ltb v (100 ^ n)) refl refl h
  where
    go : (t u : Bool) → within s at n ≡ t → ltb v (100 ^ n) ≡ u
        → ◌≡◌ {A = Result ⊤ PutError} (cond t (cond u (Ok tt) (Err PutError.TooLarge)) (Err PutError.Outside)) (Ok tt)
        → (n ≤ 9) × (at + n ≤ length s) × (v < 100 ^ n) × (put_at v n s at ≡ sets s at (packed n v))
    go true true q r k =
        let i = within-so s at n q in
        let l = ltb-true v (100 ^ n) r in
        (i.0, i.1, l, (put-fits v n s at i.0 i.1 l).1)
    go true false q r k = let z : ◌≡◌ {A = ℕ} 0 1 = cc in (omega arith, omega arith, omega arith, cc)
    go false u q r k = let z : ◌≡◌ {A = ℕ} 0 1 = cc in (omega arith, omega arith, omega arith, cc)

-- writing leaves the length
pub length-put_at : (v n : ℕ) (s : List ℕ) (at : ℕ) → length (put_at v n s at) ≡ length s
length-put_at v n s at = go (within s at n && ltb v (100 ^ n))
  where
    go : (t : Bool) → length (cond t (sets s at (packed n v)) s) ≡ length s
    go true = length-sets s at (packed n v)
    go false = refl

-- the bytes written stand at their place
pub taken-sets : (s vs : List ℕ) (at n : ℕ) → length vs ≡ n → at + n ≤ length s → take n (drop at (sets s at vs)) ≡ vs
taken-sets s vs at n e h =
    let i : at + length vs ≤ length s = omega arith in
    let l : length (take at s) ≡ at = length-take-le at s (omega arith) in
    let m : at ≤ length (take at s ++ vs) = simp (length-append) (omega arith) in
    rw (sets-eq vs s at i, drop-append-le at (take at s ++ vs) (drop (at + length vs) s) m, drop_at (take at s) vs at l)
    (take_at vs (drop (at + length vs) s) n e)

-- a field written is the field read
pub read-written : (v n : ℕ) (s : List ℕ) (at : ℕ) → put_answer v n s at ≡ Ok tt → field_at (put_at v n s at) at n ≡ Ok v
read-written v n s at h =
    let d = put-done v n s at h in
    let t = taken-sets s (packed n v) at n (length-packed n v) d.1 in
    let l : at + n ≤ length (sets s at (packed n v)) = rw length-sets d.1 in
    rw (d.3, within_all (sets s at (packed n v)) at n d.0 l, t)
    (field_from-good 0 0 (packed n v) (good-packed n v) ∙ ap Ok (value-packed n v d.2))
