-- What the steps of a walk hand on to each other.
use Rattle.std.specs.Prelude.{ℕ, Bool, cond, List, eqb, Err, Ok, Result}
use Rattle.stock_frame.specs.Outline.{outline_of}
use Rattle.walk.specs.Answers.{past_of}
use Rattle.walk.specs.Noise.{noise_length}
use Rattle.stock_lines.specs.declared.frames.Met.{Met}
use Rattle.stock_lines.specs.declared.frames.Met.TheVariants.{Past}
use Rattle.stock_lines.specs.declared.frames.Met.TheVariants.{Whole as MetWhole}
use Rattle.stock_frame.specs.declared.head.Head.{Head}
use Rattle.answers.specs.declared.Answer.{Answer}

-- a whole outline, or what its answer goes past
abbrev pub met_outline : Bool → Result Head Answer → Met
met_outline closed (Ok h) = MetWhole h
met_outline closed (Err a) = Past (past_of closed a)

-- the bytes before the next 27 at once; at a 27 what the outline says
abbrev pub met_of : Bool → List ℕ → Met
met_of closed t =
    let n = noise_length t in
    cond (eqb n 0) (met_outline closed (outline_of t)) (Past n)
