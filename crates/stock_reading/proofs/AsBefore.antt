-- No bytes are answered, and no line is walked, otherwise than before places were told.
use Prim.Native.Nat.{ℕ, ◌≤◌}
use mathlib.Core.Path.{◌≡◌, refl, sym, ap, ◌∙◌, subst}
use mathlib.Core.List.{List, [], ◌++◌}
use lib.ListN.{length}
use Rattle.layout.specs.Checks.{Check, first_fail}
use Rattle.answers.specs.Answers.{answer_number, answer_length}
use Rattle.answers.specs.Before.{said, unplaced}
use Rattle.answers.specs.declared.Answer.{Answer}
use Rattle.answers.specs.declared.Answer.TheVariants.{Accepted, NoFrame, Refused}
use Rattle.answers.proofs.BeforeLaws.{unplaced-named}
use Rattle.walk.specs.Walk.{is_whole}
use Rattle.walk.specs.Answers.{answering}
use Rattle.walk.specs.Sound.{Sound}
use Rattle.walk.proofs.MapLaws.{walk-map}
use Rattle.exchange.specs.Reading.{frame_at}
use Rattle.exchange.proofs.SoundLaws.{sound-reading}
use Rattle.stock_frame.proofs.OutlineLaws.{header-law}
use Rattle.stock_reading.specs.Reading.{format_of, stock, checks, place_of, answer_of}
use Rattle.stock_reading.specs.Before.{checks_before, answer_before, said_number, said_length, before, AsBefore, WalksAsBefore}
use Rattle.stock_reading.proofs.Exchange.{behind}

-- the checks of today are those of then
pub checks-before : (t : List ℕ) → checks t ≡ checks_before t
unfolding checks format_of
checks-before t = refl

-- and so is the answer without its place
pub as_before : AsBefore
unfolding answer_of
as_before t =
    unplaced-named (first_fail (checks t)) (frame_at stock t) (place_of (first_fail (checks t)) t)
    ∙ ap (λ (cs : List Check). said (first_fail cs) (frame_at stock t)) (checks-before t)

-- ---- the walk over a line
number-unplaced : (a : Answer) → said_number (unplaced a) ≡ answer_number a
number-unplaced (Accepted f) = refl
number-unplaced (NoFrame n p) = refl
number-unplaced (Refused n l p) = refl

length-unplaced : (a : Answer) → said_length (unplaced a) ≡ answer_length a
length-unplaced (Accepted f) = refl
length-unplaced (NoFrame n p) = refl
length-unplaced (Refused n l p) = refl

same_number : (t : List ℕ) → said_number (answer_before t) ≡ answer_number (answer_of t)
same_number t = ap said_number (sym (as_before t)) ∙ number-unplaced (answer_of t)

same_length : (t : List ℕ) → said_length (answer_before t) ≡ answer_length (answer_of t)
same_length t = ap said_length (sym (as_before t)) ∙ length-unplaced (answer_of t)

sound-now : Sound (answering answer_of) 1024
unfolding answer_of checks
sound-now = sound-reading stock header-law behind

sound-before : Sound before 1024
sound-before = record {
  nothing = same_number [] ∙ sound-now.nothing;
  some = λ t w. subst (λ (n : ℕ). 1 ≤ n) (sym (same_length t)) (sound-now.some t (ap is_whole (sym (same_number t)) ∙ w));
  inside = λ t w. subst (λ (n : ℕ). n ≤ length t) (sym (same_length t)) (sound-now.inside t (ap is_whole (sym (same_number t)) ∙ w));
  settled = λ t u h. sym (as_before (t ++ u)) ∙ ap unplaced (sound-now.settled t u (λ e. h (same_number t ∙ e))) ∙ as_before t;
  short = λ t e. sound-now.short t (sym (same_number t) ∙ e);
}

pub walks-as-before : WalksAsBefore
walks-as-before = walk-map before (answering answer_of) 1024 1024 sound-before sound-now unplaced (λ t. sym (as_before t)) number-unplaced length-unplaced
