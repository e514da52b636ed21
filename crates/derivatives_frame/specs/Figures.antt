-- The figures that stand beside an outline's number, and no others.
use Rattle.std.specs.Prelude.{ℕ, List, [], ◌∷◌, Err, Ok, Result}
use Rattle.answers.specs.Answers.{answer_number, answer_values}
use Rattle.frame.specs.Header.{own}
use Rattle.frame.specs.Figures.{OutlineTells}
use Rattle.derivatives_frame.specs.Outline.{header, head_of, outline_of}
use Rattle.derivatives_frame.specs.declared.head.Head.{Head}
use Rattle.answers.specs.declared.Answer.{Answer}

-- the number of an outline: 0 where it is whole, else the answer's
abbrev pub outline_number : Result Head Answer → ℕ
outline_number (Ok h) = 0
outline_number (Err a) = answer_number a

-- transmission code and kind, the time of sending, the number, the version, and the length of the whole frame
abbrev pub head_figures : Head → List ℕ
head_figures h = h.market ∷ h.kind ∷ h.sent ∷ h.seq ∷ h.version ∷ h.length ∷ []

-- the values beside it: of a whole one those of its header, else the answer's
abbrev pub outline_values : Result Head Answer → List ℕ
outline_values (Ok h) = head_figures h
outline_values (Err a) = answer_values a

-- an outline's number is the first check's that fails, at most 6, and beside it stands what the rules name
abbrev pub OutlineSays : List ℕ → Type 0
OutlineSays t = OutlineTells header t (head_figures (head_of (own header t))) (outline_number (outline_of t)) (outline_values (outline_of t))
