-- The table holds the digit rule for every byte, and a field read by it is the field read by the rule.
use Rattle.std.specs.Prelude.{Err, Result}
use Prim.Native.Nat.{ℕ, zero, suc, ◌+◌, ◌*◌, ◌/◌, ◌%◌, ◌≤◌, ◌<◌}
use mathlib.Core.Bool.{Bool, true, false, cond}
use mathlib.Core.List.{List, [], ◌∷◌}
use mathlib.Core.Path.{◌≡◌, refl, ap, sym, ◌∙◌}
use native.Mathlib.Nat.{zero-add, le_of_suc-le-suc, not-suc-le-zero}
use native.Mathlib.Omega.{arith}
use borrow.Author.Tests.{leb-true, leb-false, ltb-true, ltb-false, lt-leb}
use lib.Dec.{leb, ltb}
use lib.ListN.{take, drop, get_or}
use Rattle.digits.specs.Packed.{good_byte, two, byte_of}
use Rattle.digits.specs.Table.{mark, entry_of, entries_from, digit_table}
use Rattle.digits.specs.Fields.{within, field_from, field_at}
use Rattle.digits.specs.Lent.{entry_in, field_from_by, field_by}
use Rattle.digits.proofs.PackedLaws.{good-byte_of, two-byte_of, two-lt, byte_of-two}
use Rattle.digits.proofs.ReadSteps.{bad-high, bad-low, good-next, marked-high, marked-low, entry_next}
use Rattle.digits.specs.declared.fields.FieldError.{FieldError}

-- the entry at a place is that of its byte
get_or-entries : (b n k : ℕ) → k < n → get_or (entries_from b n) k 0 ≡ entry_of (b + k)
get_or-entries b zero k h = absurd (not-suc-le-zero h)
get_or-entries b (suc n) zero h = let e : b ≡ b + 0 = omega arith in ap entry_of e
get_or-entries b (suc n) (suc k) h =
    let e : suc b + k ≡ b + suc k = omega arith in
    get_or-entries (suc b) n k (le_of_suc-le-suc h) ∙ ap entry_of e

-- at the place of every byte the table has what the digit rule says of the byte
pub table-entry : (b : ℕ) → b < 256 → get_or digit_table b 0 ≡ entry_of b
table-entry b h = get_or-entries 0 256 b h ∙ ap entry_of (zero-add b)

-- the same of any number: one that is no byte has the mark, by the rule too
pub entry_in-table : (b : ℕ) → entry_in digit_table b ≡ entry_of b
entry_in-table b = go (ltb b 256) refl
  where
    go : (x : Bool) → ltb b 256 ≡ x → cond x (get_or digit_table b 0) mark ≡ entry_of b
    go true e = table-entry b (ltb-true b 256 e)
    go false e = let h = ltb-false b 256 e in rw (lt-leb (b / 16) 9 (omega arith))

-- an entry is below 100 where both halves are digits, and then it is the number that they give; packing it gives the byte back
pub entry-digits : (b : ℕ) → good_byte b ≡ true → (entry_of b ≡ two b) × (entry_of b < 100) × (byte_of (entry_of b) ≡ b)
entry-digits b g = rw g (refl, two-lt b g, byte_of-two b g)

-- the entry of a packed number is the number: each of 0 to 99 stands at one byte
pub entry-packed : (d : ℕ) → d < 100 → entry_of (byte_of d) ≡ d
entry-packed d h = (entry-digits (byte_of d) (good-byte_of d h)).0 ∙ two-byte_of d h

-- an entry is the mark exactly where a half is bad
pub entry-marked : (b : ℕ) → good_byte b ≡ false → entry_of b ≡ mark
entry-marked b g = rw g

pub marked-exactly : (b : ℕ) → entry_of b ≡ mark → good_byte b ≡ false
marked-exactly b e = go (good_byte b) refl
  where
    go : (x : Bool) → good_byte b ≡ x → x ≡ false
    go false g = refl
    go true g = let z : 1 ≤ 0 = omega (arith, e, (entry-digits b g).1) in absurd (not-suc-le-zero z)

-- bytes read by entries that are those of the rule are read by the rule
field_from-entries : (t : List ℕ) → ((b : ℕ) → entry_in t b ≡ entry_of b) → (v p : ℕ) (bs : List ℕ) → field_from_by t v p bs ≡ field_from v p bs
field_from-entries t h v p [] = refl
field_from-entries t h v p (b ∷ bs) = go (leb (b / 16) 9) (leb (b % 16) 9) refl refl (λ w. field_from-entries t h w (p + 2) bs)
  where
    -- of a byte with a bad half
    marked : good_byte b ≡ false → 99 < entry_in t b
    marked g = omega (arith, h b, entry-marked b g)

    go : (x y : Bool) → leb (b / 16) 9 ≡ x → leb (b % 16) 9 ≡ y → ((w : ℕ) → field_from_by t w (p + 2) bs ≡ field_from w (p + 2) bs)
        → field_from_by t v p (b ∷ bs) ≡ field_from v p (b ∷ bs)
    go false y e f ih =
        let l = leb-false (b / 16) 9 e in
        marked-high t v p b bs (marked (rw e)) l ∙ sym (bad-high v p b bs l)
    go true false e f ih =
        let g = leb-true (b / 16) 9 e in
        marked-low t v p b bs (marked (rw (e, f))) g ∙ sym (bad-low v p b bs g (leb-false (b % 16) 9 f))
    go true true e f ih =
        let d = entry-digits b (rw (e, f)) in
        entry_next t v p b bs (omega (arith, h b, d.1))
        ∙ ap (λ (x : ℕ). field_from_by t (v * 100 + x) (p + 2) bs) (h b ∙ d.0)
        ∙ ih (v * 100 + two b)
        ∙ sym (good-next v p b bs (leb-true (b / 16) 9 e) (leb-true (b % 16) 9 f))

-- a field read by the table is the field read by the rule
pub field_by-table : (s : List ℕ) (at n : ℕ) → field_by digit_table s at n ≡ field_at s at n
field_by-table s at n = ap (λ (f : Result ℕ FieldError). cond (within s at n) f (Err FieldError.Outside)) (field_from-entries digit_table entry_in-table 0 0 (take n (drop at s)))

-- the same of an answer by a lent table that is the one
pub read-by-table : (r : Result ℕ FieldError) (t s : List ℕ) (at n : ℕ) → r ≡ field_by t s at n → t ≡ digit_table → r ≡ field_at s at n
read-by-table r t s at n e h = e ∙ ap (λ (u : List ℕ). field_by u s at n) h ∙ field_by-table s at n
