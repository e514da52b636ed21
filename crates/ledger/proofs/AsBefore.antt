-- What was demanded while no run could be given up follows, for a series of arrivals.
use Prim.Native.Nat.{ℕ, ◌≤◌, ◌<◌, max}
use native.Mathlib.Omega.{arith}
use mathlib.Core.Path.{◌≡◌, refl, subst, ◌∙◌}
use mathlib.Core.Bool.{Bool}
use mathlib.Core.List.{List, [], ◌∷◌}
use mathlib.Core.Logic.{◌⊎◌, ◌↔◌, inr, ⊎_elim}
use Rattle.ledger.specs.Sets.{with, settled, runs_to, Highest, Longest}
use Rattle.ledger.specs.Calls.{most_number, most_runs, answer_number}
use Rattle.ledger.specs.History.{after, answer_to, recorded, floor_after, Tells}
use Rattle.ledger.specs.Before.{arrivals, Longest as LongestBefore, Tells as TellsBefore, AsBefore}
use Rattle.ledger.specs.declared.Ledger.{Ledger}
use Rattle.ledger.proofs.SetLaws.{runs_same}
use Rattle.ledger.proofs.SettledLaws.{settled-above}
use Rattle.ledger.proofs.Series.{series-told, refused-exactly}

-- a longest run above floor 0 is one from 1 on
longest-before : (f : ℕ → Bool) (top first last : ℕ) → Longest f 0 top first last → LongestBefore f top first last
longest-before f top first last run = record {
  from_one = run.above_floor;
  in_order = run.in_order;
  to-highest = run.to-highest;
  missing = run.missing;
  none_below = run.none_below;
  none-behind = run.none-behind;
}

longest-now : (f : ℕ → Bool) (top first last : ℕ) → LongestBefore f top first last → Longest f 0 top first last
longest-now f top first last run = record {
  above_floor = run.from_one;
  in_order = run.in_order;
  to-highest = run.to-highest;
  missing = run.missing;
  none_below = run.none_below;
  none-behind = run.none-behind;
}

-- nothing is settled by floor 0
runs-before : (f : ℕ → Bool) (k : ℕ) → runs_to (settled 0 f) k ≡ runs_to f k
runs-before f k = runs_same (settled 0 f) f k (λ (y : ℕ) (lo : 1 ≤ y) (hi : y ≤ k). settled-above 0 f y lo)

tells-before : (f : ℕ → Bool) (l : Ledger) → Tells f 0 l → TellsBefore f l
tells-before f l t = record {
  highest = t.highest;
  heard = t.heard;
  missing = t.missing;
  runs = t.runs;
  first = t.first;
  last = t.last;
  says-highest = t.says-highest;
  says-heard = t.says-heard;
  says-missing = t.says-missing;
  says-runs = t.says-runs;
  says-run = t.says-run;
  says-no-run = t.says-no-run;
  is-highest = t.true_of.is-highest;
  is-heard = t.true_of.is-heard;
  adds-up = omega (arith, t.true_of.adds-up, t.true_of.is-given-up);
  is-runs = t.true_of.is-runs ∙ runs-before f t.highest;
  each-longest = λ (k : ℕ) (lt : k < t.runs). longest-before f t.highest (t.first k) (t.last k) (t.true_of.are-runs.each-longest k lt);
  rising = t.true_of.are-runs.rising;
  every-longest = λ (a b : ℕ) (run : LongestBefore f t.highest a b). t.true_of.are-runs.every-longest a b (longest-now f t.highest a b run);
}

refuses-before : (f : ℕ → Bool) (n top : ℕ) (answer : ℕ) → 1 ≤ n → (0 < answer) ↔ ((n ≤ 0) ⊎ (most_runs < runs_to (settled 0 (with n f)) (max n top)))
    → (0 < answer) ↔ (most_runs < runs_to (with n f) (max n top))
refuses-before f n top answer lo (there, back) = (
  λ (refused : 0 < answer). ⊎_elim (λ (low : n ≤ 0). absurd (omega arith)) (λ (many : most_runs < runs_to (settled 0 (with n f)) (max n top)). omega (arith, runs-before (with n f) (max n top))) (there refused),
  λ (many : most_runs < runs_to (with n f) (max n top)). back (inr (omega (arith, runs-before (with n f) (max n top)))),
)

-- arrivals leave the floor at 0
no-floor : (ns : List ℕ) → floor_after (arrivals ns) ≡ 0
no-floor [] = refl
no-floor (n ∷ ns) = no-floor ns

-- so each is what is told now, at floor 0
pub as_before : (ns : List ℕ) → AsBefore ns
as_before ns = record {
  tells = tells-before (recorded (arrivals ns)) (after (arrivals ns)) (subst (λ (floor : ℕ). Tells (recorded (arrivals ns)) floor (after (arrivals ns))) (no-floor ns) (series-told (arrivals ns)));
  refuses = λ (n top : ℕ) (lo : 1 ≤ n) (hi : n ≤ most_number) (most : Highest (recorded (arrivals ns)) top).
      refuses-before (recorded (arrivals ns)) n top (answer_number (answer_to (arrivals ns) n)) lo
      (subst (λ (floor : ℕ). (0 < answer_number (answer_to (arrivals ns) n)) ↔ ((n ≤ floor) ⊎ (most_runs < runs_to (settled floor (with n (recorded (arrivals ns)))) (max n top)))) (no-floor ns)
      (refused-exactly (arrivals ns) n top lo hi most));
}
