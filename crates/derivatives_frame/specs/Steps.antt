-- What the steps of reading an outline hand on to each other.
use Rattle.std.specs.Prelude.{ℕ, cond, List, length, eqb, Err, None, Ok, Result}
use Rattle.layout.specs.Checks.{first_fail}
use Rattle.answers.specs.Answers.{named}
use Rattle.frame.specs.Header.{head_bad, last_checks}
use Rattle.derivatives_frame.specs.Outline.{header, head_of}
use Rattle.derivatives_frame.specs.declared.head.Head.{Head}
use Rattle.answers.specs.declared.Answer.{Answer}

-- the outline of a frame's own bytes, whose first byte and length are known
unfoldable pub own_outline : List ℕ → Result Head Answer
own_outline f =
    let n = first_fail (last_checks header f) in
    cond (eqb n 0) (Ok (head_of f))
    (Err (named n (record { format = 0; seq = 0; length = length f }) (cond (eqb n 6) (head_bad header f) None)))
