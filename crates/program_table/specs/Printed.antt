-- The table as text: 16 rows of 16 numbers, a row for each high half, in it a number for each low half.
use Rattle.std.specs.Prelude.{ℕ, suc, ◌%◌, Bool, cond, List, [], ◌∷◌, ◌++◌, eqb, ltb}
use Rattle.digits.specs.Table.{digit_table}
use Rattle.printing.specs.Text.{decimal}

-- ASCII
abbrev pub space : ℕ
space = 32

abbrev pub newline : ℕ
newline = 10

-- a space, or nothing
abbrev pub space_if : Bool → List ℕ
space_if wanted = cond wanted (space ∷ []) []

-- a number of at most three digits, with spaces before it up to three places
abbrev pub aligned : ℕ → List ℕ
aligned n = space_if (ltb n 100) ++ (space_if (ltb n 10) ++ decimal n)

-- what stands behind the entry of a byte: a new line where the row ends, else a space
abbrev pub parting : ℕ → ℕ
parting b = cond (eqb (b % 16) 15) newline space

-- entries as text, the first of them that of byte b
abbrev pub entries_text : ℕ → List ℕ → List ℕ
entries_text b [] = []
entries_text b (x ∷ xs) = (aligned x ++ (parting b ∷ [])) ++ entries_text (suc b) xs

-- all that is printed
abbrev pub table_text : List ℕ
table_text = entries_text 0 digit_table
