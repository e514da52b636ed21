-- The common frame: 27, the length, business, format, version and number, the body, the check byte, 0D 0A.
use Rattle.std.specs.Prelude.{ℕ, ◌+◌, ◌*◌, Bool, cond, List, [], ◌∷◌, length, get_or, eqb, Err, Ok, Option, Result}
use Rattle.layout.specs.Cells.{Cell, digits}
use Rattle.layout.specs.Checks.{Check, first_fail}
use Rattle.answers.specs.Answers.{named}
use Rattle.frame.specs.Header as common
pub use Rattle.frame.specs.Header.{inner, check_byte, ended}
use Rattle.stock_frame.specs.declared.head.Head.{Head}
use Rattle.answers.specs.declared.Answer.{Answer}

-- business, format, version and number: bytes 4 to 10
abbrev pub kind_cells : List Cell
kind_cells = digits 2 ∷ digits 2 ∷ digits 2 ∷ digits 8 ∷ []

-- the header: the length stands behind 27, bytes 2-3, and counts the whole frame; house rule: it is 14 to 1,024
abbrev pub header : common.Header
header = record { before = []; after = kind_cells; counts = λ n. 13 + n; whole = λ n. n; least = 14; most = 1024 }

abbrev pub length_bytes : List ℕ → List ℕ
length_bytes t = common.length_bytes header t

abbrev pub length_cells : List Cell
length_cells = common.length_cells

abbrev pub length_of : List ℕ → ℕ
length_of t = common.length_of header t

abbrev pub own : List ℕ → List ℕ
own t = common.own header t

-- the body: from byte 11 up to the check byte
abbrev pub body : List ℕ → List ℕ
body f = common.body header f

-- the whole header after 27
abbrev pub head_cells : List Cell
head_cells = digits 4 ∷ kind_cells

-- the numbers that bytes 4 to 10 hold
abbrev pub kind_values : List ℕ → List ℕ
kind_values f = common.rear header f

abbrev pub business : List ℕ → ℕ
business f = get_or (kind_values f) 0 0

abbrev pub format : List ℕ → ℕ
format f = get_or (kind_values f) 1 0

abbrev pub version : List ℕ → ℕ
version f = get_or (kind_values f) 2 0

abbrev pub sequence : List ℕ → ℕ
sequence f = get_or (kind_values f) 3 0

abbrev pub length_right : List ℕ → Bool
length_right t = common.length_right header t

-- the rules' checks up to the bad digit in bytes 4 to 10
abbrev pub outline_checks : List ℕ → List Check
outline_checks t = common.outline_checks header t

-- the header as one call hands it on
abbrev pub head_of : List ℕ → Head
head_of f = record { kind = (business f * 100 + format f) * 100 + version f; seq = sequence f; length = length f }

-- where the bad digit is that an answer speaks of, in halves from the frame's first byte: beside 3 in the length, if one is the cause;
-- beside 6 in bytes 4 to 10; beside no other
abbrev pub outline_place : ℕ → List ℕ → Option ℕ
outline_place n t = common.outline_place header n t

unfoldable pub outline_of : List ℕ → Result Head Answer
outline_of t =
    let n = first_fail (outline_checks t) in
    cond (eqb n 0) (Ok (head_of (own t))) (Err (named n (record { format = 0; seq = 0; length = length_of t }) (outline_place n t)))
