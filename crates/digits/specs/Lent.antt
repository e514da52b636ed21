-- A field read by a lent table, which may hold any numbers. By the table of the rule it is the field of the rule.
use Rattle.std.specs.Prelude.{ℕ, ◌+◌, ◌*◌, ◌/◌, cond, List, [], ◌∷◌, ltb, take, drop, get_or, Err, Ok, Result}
use Rattle.digits.specs.Table.{mark}
use Rattle.digits.specs.Fields.{within}
use Rattle.digits.specs.declared.fields.FieldError.{FieldError}

-- what a table t has for a byte; a number that is no byte has the mark
abbrev pub entry_in : List ℕ → ℕ → ℕ
entry_in t b = cond (ltb b 256) (get_or t b 0) mark

-- the number read on from v, where p halves stand before these bytes; an entry above 99 is a mark: the byte's high half is bad, or else its low half
abbrev pub field_from_by : List ℕ → ℕ → ℕ → List ℕ → Result ℕ FieldError
field_from_by t v p [] = Ok v
field_from_by t v p (b ∷ bs) =
    let d = entry_in t b in
    let r = field_from_by t (v * 100 + d) (p + 2) bs in
    cond (ltb 99 d) (cond (ltb 9 (b / 16)) (Err (FieldError.Bad p)) (Err (FieldError.Bad (p + 1)))) r

-- the n bytes from a place
abbrev pub field_by : List ℕ → List ℕ → ℕ → ℕ → Result ℕ FieldError
field_by t s at n = cond (within s at n) (field_from_by t 0 0 (take n (drop at s))) (Err FieldError.Outside)
