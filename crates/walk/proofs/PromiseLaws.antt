-- The promises of a walk over a line hold of every sound reading.
use Prim.Native.Nat.{ℕ}
use mathlib.Core.Path.{◌≡◌}
use mathlib.Core.List.{List}
use lib.ListN.{drop}
use Rattle.answers.specs.Answers.{answer_number, answer_length}
use Rattle.answers.specs.declared.Answer.{Answer}
use Rattle.walk.specs.Walk.{Reading, walk_from}
use Rattle.walk.specs.Answers.{answering}
use Rattle.walk.specs.Sound.{Sound}
use Rattle.walk.specs.Promises.{LineSays}
use Rattle.walk.proofs.ToldSteps.{next-sixteen-exactly}
use Rattle.walk.proofs.MoreLaws.{walk_more, rest-short, rest-closed}
use Rattle.walk.proofs.FigureLaws.{figures-add-up, walk-says}
use Rattle.walk.proofs.RowLaws.{pieces-are-rows}
use Rattle.walk.proofs.MapLaws.{walk-map}
use Rattle.walk.proofs.ListedLaws.{calls-are-rows}
use Rattle.walk.proofs.StepLaws as steps

module _ {S : Type 0} (says : List ℕ → Answer) (sayings : Reading S) (answer_in : S → Answer) (longest : ℕ)
    (sound-answers : Sound (answering says) longest) (sound-sayings : Sound sayings longest)
    (same : (t : List ℕ) → says t ≡ answer_in (sayings.says t))
    (number : (s : S) → answer_number (answer_in s) ≡ sayings.number s) (size : (s : S) → answer_length (answer_in s) ≡ sayings.size s) where
  pub line-says : LineSays says sayings answer_in longest
  line-says = record {
    adds-up = figures-add-up (answering says) longest sound-answers;
    in_place = walk-says sayings longest sound-sayings;
    step-number = steps.step-number says;
    step-values = steps.step-values says;
    sixteen-exactly = λ closed kept at line. next-sixteen-exactly (walk_from (answering says) closed kept.at (drop at line)) kept at;
    aside = λ closed line. (walk-map (answering says) sayings longest longest sound-answers sound-sayings answer_in same number size closed 0 line).0;
    goes_on = λ closed line more. (walk_more sayings longest sound-sayings more closed 0 line).0;
    waits-short = rest-short (answering says) longest sound-answers;
    closed-waits = rest-closed (answering says) longest sound-answers;
    in-pieces = pieces-are-rows sayings longest sound-sayings;
    by-calls = calls-are-rows says longest sound-answers;
  }
