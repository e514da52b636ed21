-- The rules on a body's numbers and its event, one law for each way through the code.
use Rattle.std.specs.Prelude.{Option, Some}
use Prim.Native.Nat.{ℕ}
use mathlib.Core.Path.{◌≡◌, refl, sym, ap, ◌∙◌}
use mathlib.Core.Bool.{Bool, true, false, cond, ◌&&◌, not, and-false, or-true, or-false}
use mathlib.Core.List.{List}
use borrow.Author.Tests.{eqb-true, eq-eqb, ne_eqb}
use lib.Dec.{eqb}
use Rattle.codes_times.specs.Times.{nines, time_of_day}
use Rattle.stock_halts.specs.Halts.{round_times, times_right, ascii_from, same_resume, tidy_event}
use Rattle.stock_halts.specs.declared.Event.{Event}
use Rattle.stock_halts.specs.declared.Event.TheVariants.{RoundEnd, Halted}

module _ (h r : ℕ) where
  -- ---- both times
  pub times-nines : h ≡ nines 0 → times_right h r ≡ eqb r (nines 0)
  times-nines n = rw n (or-false (eqb r (nines 0)))

  pub times-no-day : (h ≡ nines 0 → ⊥) → time_of_day 0 h ≡ false → times_right h r ≡ false
  times-no-day n d = rw (ne_eqb h (nines 0) n, d)

  module _ (d : time_of_day 0 h ≡ true) where
    pub times-open : r ≡ nines 0 → times_right h r ≡ true
    times-open n = rw (d, eq-eqb r (nines 0) n) (or-true (eqb h (nines 0) && true))

    pub times-both : (r ≡ nines 0 → ⊥) → times_right h r ≡ time_of_day 0 r
    times-both n = rw (d, ne_eqb r (nines 0) n, and-false (eqb h (nines 0)))

  -- right times are a round's where the first is all nines
  pub round-told : times_right h r ≡ true → eqb h (nines 0) ≡ round_times h r
  round-told t = go (eqb h (nines 0)) refl
    where
      go : (x : Bool) → eqb h (nines 0) ≡ x → x ≡ (x && eqb r (nines 0))
      go true e = sym (sym (times-nines (eqb-true h (nines 0) e)) ∙ t)
      go false e = refl

-- ---- an event that is tidy
pub tidy-round : (code : List ℕ) (e : Event) (n : ℕ) → e ≡ RoundEnd n → tidy_event code e ≡ eqb n (ascii_from 0 code)
tidy-round code e n p = ap (tidy_event code) p

pub tidy-halted : (code : List ℕ) (e : Event) (t : ℕ) (r : Option ℕ) → e ≡ Halted t r → (t ≡ nines 0 → ⊥) → tidy_event code e ≡ same_resume r
tidy-halted code e t r p n = ap (tidy_event code) p ∙ ap (λ (x : Bool). cond x false true && same_resume r) (ne_eqb t (nines 0) n)

-- a resume at a time, by a negated test
pub same_at : (r : Option ℕ) (t : ℕ) → r ≡ Some t → same_resume r ≡ not (eqb t (nines 0))
same_at r t p = ap same_resume p ∙ go (eqb t (nines 0))
  where
    go : (x : Bool) → cond x false true ≡ not x
    go true = refl
    go false = refl
