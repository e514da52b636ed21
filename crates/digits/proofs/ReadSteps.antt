-- Reading a field byte by byte: what is left to read after k bytes, and what one byte more does, by the rule and by a table.
use Rattle.std.specs.Prelude.{Err}
use Prim.Native.Nat.{ℕ, ◌+◌, ◌*◌, ◌/◌, ◌%◌, ◌≤◌, ◌<◌}
use mathlib.Core.List.{List, ◌∷◌}
use mathlib.Core.Path.{◌≡◌}
use borrow.Author.Tests.{lt-ltb, le-ltb}
use Rattle.digits.specs.Packed.{two}
use Rattle.digits.specs.Fields.{field_from}
use Rattle.digits.specs.Lent.{entry_in, field_from_by}
use Rattle.digits.specs.declared.fields.FieldError.{FieldError}

-- by the rule: a bad high half ends the reading
pub bad-high : (v p b : ℕ) (bs : List ℕ) → 9 < b / 16 → field_from v p (b ∷ bs) ≡ Err (FieldError.Bad p)
bad-high v p b bs h = rw (lt-ltb 9 (b / 16))

-- so does a bad low half after a good high one
pub bad-low : (v p b : ℕ) (bs : List ℕ) → b / 16 ≤ 9 → 9 < b % 16 → field_from v p (b ∷ bs) ≡ Err (FieldError.Bad (p + 1))
bad-low v p b bs g h = rw (le-ltb 9 (b / 16), lt-ltb 9 (b % 16))

-- a good byte adds its two digits
pub good-next : (v p b : ℕ) (bs : List ℕ) → b / 16 ≤ 9 → b % 16 ≤ 9
    → field_from v p (b ∷ bs) ≡ field_from (v * 100 + two b) (p + 2) bs
good-next v p b bs g h = rw (le-ltb 9 (b / 16), le-ltb 9 (b % 16))

-- by a table: a marked byte ends the reading, at its high half if that is bad
pub marked-high : (t : List ℕ) (v p b : ℕ) (bs : List ℕ) → 99 < entry_in t b → 9 < b / 16 → field_from_by t v p (b ∷ bs) ≡ Err (FieldError.Bad p)
marked-high t v p b bs m h = rw (lt-ltb 99 (entry_in t b), lt-ltb 9 (b / 16))

-- and else at its low half
pub marked-low : (t : List ℕ) (v p b : ℕ) (bs : List ℕ) → 99 < entry_in t b → b / 16 ≤ 9 → field_from_by t v p (b ∷ bs) ≡ Err (FieldError.Bad (p + 1))
marked-low t v p b bs m h = rw (lt-ltb 99 (entry_in t b), le-ltb 9 (b / 16))

-- another byte adds its entry
pub entry_next : (t : List ℕ) (v p b : ℕ) (bs : List ℕ) → entry_in t b ≤ 99
    → field_from_by t v p (b ∷ bs) ≡ field_from_by t (v * 100 + entry_in t b) (p + 2) bs
entry_next t v p b bs h = rw (le-ltb 99 (entry_in t b))
