-- A packed field of n bytes at a place, read and written.
use Rattle.std.specs.Prelude.{ℕ, ◌+◌, ◌*◌, ◌/◌, ◌%◌, ◌^◌, Bool, cond, ◌&&◌, List, [], ◌∷◌, length, take, drop, leb, ltb, Err, Ok, Result, ⊤}
use Rattle.std.proofs.lemmas.List.Edits.{sets}
use Rattle.digits.specs.Packed.{two, packed}
use Rattle.digits.specs.declared.fields.FieldError.{FieldError}
use Rattle.digits.specs.declared.fields.PutError.{PutError}

-- the number read on from v; or the place of the first bad half, where p halves stand before these bytes
abbrev pub field_from : ℕ → ℕ → List ℕ → Result ℕ FieldError
field_from v p [] = Ok v
field_from v p (b ∷ bs) =
    let r = field_from (v * 100 + two b) (p + 2) bs in
    cond (ltb 9 (b / 16)) (Err (FieldError.Bad p)) (cond (ltb 9 (b % 16)) (Err (FieldError.Bad (p + 1))) r)

-- n bytes from a place lie within the bytes, and their number within a u64
abbrev pub within : List ℕ → ℕ → ℕ → Bool
within s at n = leb n 9 && leb (at + n) (length s)

-- what reading the n bytes from a place answers, a bad half counted from the first of them
abbrev pub field_at : List ℕ → ℕ → ℕ → Result ℕ FieldError
field_at s at n = cond (within s at n) (field_from 0 0 (take n (drop at s))) (Err FieldError.Outside)

-- what writing the number v into the n bytes from a place answers, and the bytes afterwards
abbrev pub put_answer : ℕ → ℕ → List ℕ → ℕ → Result ⊤ PutError
put_answer v n s at = cond (within s at n) (cond (ltb v (100 ^ n)) (Ok tt) (Err PutError.TooLarge)) (Err PutError.Outside)

abbrev pub put_at : ℕ → ℕ → List ℕ → ℕ → List ℕ
put_at v n s at = cond (within s at n && ltb v (100 ^ n)) (sets s at (packed n v)) s
