-- What a reading leaves in lent memory.
use Prim.Native.Nat.{ℕ}
use mathlib.Core.Path.{◌≡◌, sym, ap, ◌∙◌}
use mathlib.Core.Bool.{Bool, true, false, cond}
use Rattle.answers.specs.declared.Answer.{Answer}
use Rattle.c_outcomes.specs.Lent.{is_of, lent}

-- memory that is filled where a test holds, and else left
module _ (test : Bool) {A : Type 0} (new old : A) where
  pub cond-filled : (x : A) → test ≡ true → x ≡ new → x ≡ cond test new old
  cond-filled x is e = e ∙ sym (ap (λ (t : Bool). cond t new old) is)

  pub cond-kept : test ≡ false → old ≡ cond test new old
  cond-kept other = sym (ap (λ (t : Bool). cond t new old) other)

module _ (format : ℕ) (a : Answer) {A : Type 0} (new old : A) where
  -- an accepted frame of the format fills it, all else leaves it
  pub lent-filled : (x : A) → is_of format a ≡ true → x ≡ new → x ≡ lent format a new old
  lent-filled x is e = cond-filled (is_of format a) new old x is e

  pub lent-kept : is_of format a ≡ false → old ≡ lent format a new old
  lent-kept other = cond-kept (is_of format a) new old other
