-- What the outline's answer tells.
use Rattle.std.specs.Prelude.{Err, Ok}
use Prim.Native.Nat.{ℕ}
use mathlib.Core.Path.{◌≡◌, refl, ◌∙◌}
use mathlib.Core.Bool.{Bool, true, false, cond}
use mathlib.Core.List.{List}
use native.Mathlib.Omega.{arith}
use lib.Dec.{eqb}
use borrow.Author.Tests.{eqb-true, eqb-false}
use Rattle.layout.specs.Checks.{first_fail}
use Rattle.answers.specs.Answers.{named}
use Rattle.answers.specs.declared.Answer.{Answer}
use Rattle.frame.specs.Header.{length_of, own, outline_checks, outline_place, Outlined}
use Rattle.frame.proofs.HeaderLaws.{passes-outlined}
use Rattle.derivatives_frame.specs.Outline.{header, head_of, outline_of}
use Rattle.derivatives_frame.specs.declared.head.Head.{Head}
use Rattle.derivatives_frame.proofs.OutlineSteps.{answered}

module _ (t : List ℕ) where
  -- the number of the first check that fails, and the answer of that number
  abbrev failed : ℕ
  failed = first_fail (outline_checks header t)

  abbrev said : Answer
  said = named failed (record { format = 0; seq = 0; length = length_of header t }) (outline_place header failed t)

  -- a whole outline is one whose checks all hold, and its header is that of the frame's own bytes
  pub whole-outlined : (h : Head) → outline_of t ≡ Ok h → Outlined header t × (h ≡ head_of (own header t))
  whole-outlined h e = go (eqb failed 0) refl (answered t failed refl ∙ e)
    where
      go : (b : Bool) → eqb failed 0 ≡ b → cond b (Ok (head_of (own header t))) (Err said) ≡ Ok h → Outlined header t × (h ≡ head_of (own header t))
      go true z q = (passes-outlined header t (eqb-true failed 0 z), cc)
      go false z q = let x : ◌≡◌ {A = ℕ} 0 1 = cc in absurd (omega arith)

  -- any other outline is the answer of the first check that fails
  pub not-outlined : (a : Answer) → outline_of t ≡ Err a
      → (first_fail (outline_checks header t) ≡ 0 → ⊥)
      × (a ≡ named (first_fail (outline_checks header t)) (record { format = 0; seq = 0; length = length_of header t }) (outline_place header (first_fail (outline_checks header t)) t))
  not-outlined a e = go (eqb failed 0) refl (answered t failed refl ∙ e)
    where
      go : (b : Bool) → eqb failed 0 ≡ b → cond b (Ok (head_of (own header t))) (Err said) ≡ Err a → (failed ≡ 0 → ⊥) × (a ≡ said)
      go true z q = let x : ◌≡◌ {A = ℕ} 0 1 = cc in absurd (omega arith)
      go false z q = (eqb-false failed 0 z, cc)
