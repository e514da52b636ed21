-- The listing of a closed line of an exchange: a header row, a row for each frame and for each run of skipped bytes, and the total.
use Rattle.std.specs.Prelude.{ℕ, true, List, [], ◌∷◌, ◌++◌}
use Rattle.answers.specs.Answers.{answer_number}
use Rattle.answers.specs.declared.Answer.{Answer}
use Rattle.answers.specs.declared.Answer.TheVariants.{Accepted, NoFrame, Refused}
use Rattle.printing.specs.Text.{decimal, field}
use Rattle.walk.specs.Walk.{Move, walk}
use Rattle.walk.specs.Answers.{answering}
use Rattle.walk.specs.Tally.{tally_of}
use Rattle.walk.specs.Rows.{rows_of}
use Rattle.walk.specs.Told.{row_of}
use Rattle.walk.specs.declared.rows.Row.{Row}
use Rattle.walk.specs.declared.tally.Tally.{Tally}
use Rattle.lines.specs.Lines.{answer_on}
use Rattle.lines.specs.declared.exchanges.Exchange.{Exchange}
use Rattle.lines.specs.declared.exchanges.Exchange.TheVariants.{Stock, Derivatives}

-- ASCII
abbrev pub comma : ℕ
comma = 44

abbrev pub newline : ℕ
newline = 10

-- `-,-`
abbrev pub dashes : List ℕ
dashes = 45 ∷ 44 ∷ 45 ∷ []

-- `at,answer,bytes,format,seq`
abbrev pub header : List ℕ
header =
    97 ∷ 116 ∷ 44 ∷ 97 ∷ 110 ∷ 115 ∷ 119 ∷ 101 ∷ 114 ∷ 44 ∷ 98 ∷ 121 ∷ 116 ∷ 101 ∷ 115 ∷ 44
    ∷ 102 ∷ 111 ∷ 114 ∷ 109 ∷ 97 ∷ 116 ∷ 44 ∷ 115 ∷ 101 ∷ 113 ∷ 10 ∷ []

-- `total,`
abbrev pub total : List ℕ
total = 116 ∷ 111 ∷ 116 ∷ 97 ∷ 108 ∷ 44 ∷ []

-- what stands before a format's number: nothing, or `I0`, as the derivatives exchange calls its kinds I060 and I064
abbrev pub mark : Exchange → List ℕ
mark Stock = []
mark Derivatives = 73 ∷ 48 ∷ []

-- format and number of an accepted frame; dashes for anything else
abbrev pub frame_text : Exchange → Answer → List ℕ
frame_text e (Accepted f) = mark e ++ (field f.format comma ++ decimal f.seq)
frame_text e (NoFrame n p) = dashes
frame_text e (Refused n l p) = dashes

-- place, answer, bytes, format, number
abbrev pub row_text : Exchange → Row → List ℕ
row_text e r = field r.at comma ++ (field (answer_number r.answer) comma ++ (field r.bytes comma ++ (frame_text e r.answer ++ (newline ∷ []))))

-- accepted, refused and skipped bytes
abbrev pub total_text : Tally → List ℕ
total_text t = total ++ (field t.accepted comma ++ (field t.refused comma ++ field t.skipped newline))

abbrev pub rows_text : Exchange → List (Move Answer) → List ℕ
rows_text e [] = []
rows_text e (m ∷ ms) = row_text e (row_of m) ++ rows_text e ms

-- the whole output for a line
abbrev pub listing : Exchange → List ℕ → List ℕ
listing e line =
    let answers = answering (answer_on e) in
    header ++ (rows_text e (rows_of answers (walk answers true line)) ++ total_text (tally_of answers true line))
