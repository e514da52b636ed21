-- What the laws of a walk ask of a reading.
use Rattle.std.specs.Prelude.{ℕ, ◌≤◌, ◌<◌, ◌≡◌, true, List, [], ◌∷◌, ◌++◌, length, None}
use Rattle.answers.specs.declared.Answer.{Answer}
use Rattle.answers.specs.declared.Answer.TheVariants.{NoFrame}
use Rattle.walk.specs.Walk.{Reading, is_whole}
use Rattle.walk.specs.Answers.{answering}

-- a reading that waits where there are no bytes, speaks of frames that stand there whole, takes no answer back when bytes
-- follow, and never waits for more bytes than the longest frame has
pub record Sound {A : Type 0} (R : Reading A) (longest : ℕ) : Type 0 where
  pub nothing : R.number (R.says []) ≡ 2
  pub some : (t : List ℕ) → is_whole (R.number (R.says t)) ≡ true → 1 ≤ R.size (R.says t)
  pub inside : (t : List ℕ) → is_whole (R.number (R.says t)) ≡ true → R.size (R.says t) ≤ length t
  pub settled : (t u : List ℕ) → (R.number (R.says t) ≡ 2 → ⊥) → R.says (t ++ u) ≡ R.says t
  pub short : (t : List ℕ) → R.number (R.says t) ≡ 2 → length t < longest

-- a line's reading: it says answers, soundly, and 1 where no 27 stands
pub record LineReading : Type 0 where
  pub says : List ℕ → Answer
  pub longest : ℕ
  pub sound : Sound (answering says) longest
  pub quiet : (b : ℕ) (bs : List ℕ) → (b ≡ 27 → ⊥) → says (b ∷ bs) ≡ NoFrame 1 None
