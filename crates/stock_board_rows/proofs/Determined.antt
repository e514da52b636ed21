-- The contracts of the board's calls leave no choice: any two results that one allows are equal, the answer and the rows at exit.
use mathlib.Core.Path.{◌≡◌, sym, ◌∙◌}
use seplogic.Ra.Ura.{Ura}
use base.Logic.{SProp, ent, sep, fst∗, snd∗}
use prog.Memory.{Memory}
use prog.Routine.{Routine}
use types.Logic.{Logic}
use contract.Lifetimes.{Lfts}
use contract.Monad.{Fun, fact, fact_i, fact_use}
use denote.Triple.Clauses.{AtExit}
use denote.Triple.Entry.{Args, Res}
use Rattle.stock_board_rows.specs.contracts.take as take
use Rattle.stock_board_rows.specs.contracts.ask as ask
use Rattle.stock_board_rows.specs.contracts.clear as clear

-- two facts, and what follows from both
together : {M : Type 1} (𝓤 : Ura M) (φ ψ χ : Type 0) → (φ → ψ → χ) → ent 𝓤 (sep 𝓤 (fact 𝓤 φ) (fact 𝓤 ψ)) (fact 𝓤 χ)
together 𝓤 φ ψ χ h = fact_use 𝓤 φ (fst∗ 𝓤 (fact 𝓤 φ) (fact 𝓤 ψ)) (λ p. fact_use 𝓤 ψ (snd∗ 𝓤 (fact 𝓤 φ) (fact 𝓤 ψ)) (λ q. fact_i 𝓤 χ _ (h p q)))

module _ {M : Type 1} {𝓤 : Ura M} (𝓛 : Logic 𝓤) (mem : Memory → SProp 𝓤) (run : Routine → Fun 𝓤) (κs : Lfts 1) where
  pub determined-take : (a : Args take.signature κs) (r₁ r₂ : Res take.signature κs) (s₁ s₂ : AtExit take.ended κs) → let Said = (take.clauses 𝓛 mem run κs a).ensures tt in
      ent 𝓤 (sep 𝓤 (Said r₁ s₁) (Said r₂ s₂)) (fact 𝓤 ((r₁ ≡ r₂) × (s₁.0.now ≡ s₂.0.now)))
  determined-take a r₁ r₂ s₁ s₂ = together 𝓤 _ _ _ (λ p q. (p.0 ∙ sym q.0, p.1 ∙ sym q.1))

  pub determined-ask : (a : Args ask.signature κs) (r₁ r₂ : Res ask.signature κs) (s₁ s₂ : AtExit ask.ended κs) → let Said = (ask.clauses 𝓛 mem run κs a).ensures tt in
      ent 𝓤 (sep 𝓤 (Said r₁ s₁) (Said r₂ s₂)) (fact 𝓤 (r₁ ≡ r₂))
  determined-ask a r₁ r₂ s₁ s₂ = together 𝓤 _ _ _ (λ p q. p ∙ sym q)

  pub determined-clear : (a : Args clear.signature κs) (r₁ r₂ : Res clear.signature κs) (s₁ s₂ : AtExit clear.ended κs) → let Said = (clear.clauses 𝓛 mem run κs a).ensures tt in
      ent 𝓤 (sep 𝓤 (Said r₁ s₁) (Said r₂ s₂)) (fact 𝓤 ((r₁ ≡ r₂) × (s₁.0.now ≡ s₂.0.now)))
  determined-clear a r₁ r₂ s₁ s₂ = together 𝓤 _ _ _ (λ p q. (p.0 ∙ sym q.0, p.1 ∙ sym q.1))
