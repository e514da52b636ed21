-- The derivatives exchange's header: 27, transmission code and kind, the time of sending, the number, the version, the length of the body.
use Rattle.std.specs.Prelude.{ℕ, ◌+◌, cond, List, [], ◌∷◌, length, get_or, eqb, Err, Ok, Result}
use Rattle.digits.specs.Packed.{width}
use Rattle.layout.specs.Cells.{raw, digits}
use Rattle.layout.specs.Checks.{first_fail}
use Rattle.answers.specs.Answers.{named}
use Rattle.frame.specs.Header.{Header, length_of, own, front, outline_checks, outline_place}
use Rattle.derivatives_frame.specs.declared.head.Head.{Head}
use Rattle.answers.specs.declared.Answer.{Answer}

-- house rule: the length counts the body alone. A time of w digits, and the longest frame, are those of an edition
abbrev pub header_with : ℕ → ℕ → Header
header_with w longest = record {
  before = raw ∷ raw ∷ digits w ∷ digits 8 ∷ digits 2 ∷ [];
  after = [];
  counts = λ n. n;
  whole = λ n. 13 + width w + n;
  least = 13 + width w;
  most = longest;
}

-- the edition of 2015
abbrev pub header : Header
header = header_with 8 1024

-- the numbers of a header: those of a frame's own bytes
abbrev pub market : List ℕ → ℕ
market f = get_or (front header f) 0 0

abbrev pub kind : List ℕ → ℕ
kind f = get_or (front header f) 1 0

abbrev pub sent : List ℕ → ℕ
sent f = get_or (front header f) 2 0

abbrev pub sequence : List ℕ → ℕ
sequence f = get_or (front header f) 3 0

abbrev pub version : List ℕ → ℕ
version f = get_or (front header f) 4 0

-- the header as one call hands it on
abbrev pub head_of : List ℕ → Head
head_of f = record { market = market f; kind = kind f; sent = sent f; seq = sequence f; version = version f; length = length f }

-- what the checks up to the header's digits say: a whole outline with its header, or the answer of the first that fails
unfoldable pub outline_of : List ℕ → Result Head Answer
outline_of t =
    let n = first_fail (outline_checks header t) in
    cond (eqb n 0) (Ok (head_of (own header t))) (Err (named n (record { format = 0; seq = 0; length = length_of header t }) (outline_place header n t)))
