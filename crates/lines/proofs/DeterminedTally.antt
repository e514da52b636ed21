-- The contract of a lent tally's walk leaves no choice: any two results that it allows are equal, the answer and the tally at exit.
use mathlib.Core.Path.{◌≡◌, sym, ◌∙◌}
use seplogic.Ra.Ura.{Ura}
use base.Logic.{SProp, ent, sep, fst∗, snd∗}
use prog.Memory.{Memory}
use prog.Routine.{Routine}
use types.Logic.{Logic}
use contract.Lifetimes.{Lfts}
use contract.Monad.{Fun, fact, fact_i, fact_use}
use denote.Triple.Clauses.{AtExit}
use denote.Triple.Entry.{Args, Res}
use Rattle.lines.specs.contracts.tally.walk_line as f

module _ {M : Type 1} {𝓤 : Ura M} (𝓛 : Logic 𝓤) (mem : Memory → SProp 𝓤) (run : Routine → Fun 𝓤) (κs : Lfts 2) (a : Args f.signature κs) where
  -- the contract's clause, at a result and the parameters at exit
  abbrev pub Said : Res f.signature κs → AtExit f.ended κs → SProp 𝓤
  Said = (f.clauses 𝓛 mem run κs a).ensures tt

  -- what `walk_line` answers, and the tally afterwards
  pub determined-walk-line : (r₁ r₂ : Res f.signature κs) (s₁ s₂ : AtExit f.ended κs)
      → ent 𝓤 (sep 𝓤 (Said r₁ s₁) (Said r₂ s₂)) (fact 𝓤 ((r₁ ≡ r₂) × (s₁.1.0.now ≡ s₂.1.0.now)))
  determined-walk-line r₁ r₂ s₁ s₂ =
      fact_use 𝓤 _ (fst∗ 𝓤 (Said r₁ s₁) (Said r₂ s₂)) (λ p. fact_use 𝓤 _ (snd∗ 𝓤 (Said r₁ s₁) (Said r₂ s₂)) (λ q. fact_i 𝓤 _ _ (p.0 ∙ sym q.0, p.1 ∙ sym q.1)))
