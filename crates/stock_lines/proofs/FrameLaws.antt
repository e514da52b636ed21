-- The next frame of a line from a place on: what it is at each kind of place, and that it stays the same further on.
use Rattle.std.specs.Prelude.{Err, None, Ok, Result}
use Prim.Native.Nat.{ℕ, zero, suc, ◌+◌, ◌≤◌, ◌<◌}
use mathlib.Core.Path.{◌≡◌, refl, sym, ap, ◌∙◌, subst}
use mathlib.Core.Bool.{Bool, true, false, cond}
use mathlib.Core.List.{List}
use native.Mathlib.Omega.{arith}
use lib.ListN.{length, get_or, drop}
use lib.Seq.{get_or-drop}
use lib.Dec.{eqb, leb}
use borrow.Author.Tests.{eqb-false, eq-eqb, ne_eqb, leb-true, leb-false}
use Rattle.answers.specs.declared.Answer.{Answer}
use Rattle.answers.specs.declared.Answer.TheVariants.{NoFrame}
use Rattle.stock_frame.specs.Outline.{outline_of}
use Rattle.stock_frame.specs.declared.head.Head.{Head}
use Rattle.stock_frame.proofs.OutlineLaws.{length-own, least-length}
use Rattle.stock_frame.proofs.OutlineSteps.{check-first}
use Rattle.stock_frame.proofs.PartLaws.{whole-outlined}
use Rattle.stock_reading.specs.Reading.{answer_of}
use Rattle.stock_reading.proofs.ReadingLaws.{answer-not}
use Rattle.walk.specs.Walk.{Move}
use Rattle.walk.specs.Answers.{past_of}
use Rattle.walk.specs.Noise.{noise_length}
use Rattle.walk.proofs.AnswerLaws.{past-stops, some_left, none_left, move-within, walk_turn, walk-stop}
use Rattle.walk.proofs.NoiseLaws.{noise-ends, noise-stops, noise-goes-on}
use Rattle.stock_lines.specs.Lines.{longest, on_outline, ahead_of, next_frame}
use Rattle.stock_lines.specs.Steps.{met_outline, met_of}
use Rattle.stock_lines.specs.declared.frames.Met.{Met}
use Rattle.stock_lines.specs.declared.frames.Met.TheVariants.{Past}
use Rattle.stock_lines.specs.declared.frames.Met.TheVariants.{Whole as MetWhole}
use Rattle.stock_lines.specs.declared.frames.Ahead.TheVariants.{Frame, Nothing}
use Rattle.stock_lines.proofs.LineLaws.{sound-answers}
use Rattle.stock_lines.proofs.FrameTheorems.{whole-past}

-- a walk moves at a whole outline
whole-moves : (c : Bool) (t : List ℕ) (h : Head) → outline_of t ≡ Ok h → past_of c (answer_of t) ≡ 0 → ⊥
whole-moves c t h e z =
    let w = whole-outlined t h e in
    omega (arith, z, whole-past t h e c, ap (λ (x : Head). x.length) w.1, length-own t w.0, least-length t w.0)

module _ (c : Bool) (line : List ℕ) where
  pub frame-ends : (at : ℕ) → length line ≤ at → Nothing at ≡ next_frame c at line
  frame-ends at h = sym (ap (λ (ms : List (Move Answer)). ahead_of line ms at) (walk-stop answer_of longest sound-answers c line at at (none_left answer_of longest sound-answers c line at h)).0)

  module _ (at : ℕ) (h : at < length line) where
    abbrev t : List ℕ
    t = drop at line

    -- one move more
    frame-turn : (past_of c (answer_of t) ≡ 0 → ⊥) → next_frame c at line ≡ on_outline (outline_of t) at (next_frame c (at + past_of c (answer_of t)) line)
    frame-turn e = ap (λ (ms : List (Move Answer)). ahead_of line ms at) (walk_turn answer_of longest sound-answers c line at at h e).0

    pub frame_here : (w : Head) → outline_of t ≡ Ok w → Frame w at ≡ next_frame c at line
    frame_here w e =
        sym (frame-turn (whole-moves c t w e)
        ∙ ap (λ (o : Result Head Answer). on_outline o at (next_frame c (at + past_of c (answer_of t)) line)) e)

    module _ (a : Answer) (e : outline_of t ≡ Err a) (n : ℕ) (p : n ≡ past_of c a) where
      past_is : n ≡ past_of c (answer_of t)
      past_is = p ∙ ap (past_of c) (answer-not t a e)

      pub frame-stops : n ≡ 0 → Nothing at ≡ next_frame c at line
      frame-stops z =
          sym (ap (λ (ms : List (Move Answer)). ahead_of line ms at)
          (walk-stop answer_of longest sound-answers c line at at (past-stops answer_of longest sound-answers c t (some_left answer_of longest sound-answers c line at h) (sym past_is ∙ z))).0)

      pub frame-within : (n ≡ 0 → ⊥) → at + n ≤ length line
      frame-within z =
          subst (λ (m : ℕ). at + m ≤ length line) (sym past_is)
          (move-within answer_of longest sound-answers c line at h (λ q. z (past_is ∙ q)))

      pub frame-further : (n ≡ 0 → ⊥) → next_frame c (at + n) line ≡ next_frame c at line
      frame-further z =
          sym (frame-turn (λ q. z (past_is ∙ q))
          ∙ (λ i. on_outline (e i) at (next_frame c (at + sym past_is i) line)))

  -- bytes before the next 27
  no-outline : (at : ℕ) → at < length line → (get_or line at 0 ≡ 27 → ⊥) → outline_of (drop at line) ≡ Err (NoFrame 1 None)
  no-outline at h other =
      sym (check-first (drop at line) (some_left answer_of longest sound-answers c line at h)
      (λ q. other (ap (λ (k : ℕ). get_or line k 0) (omega arith) ∙ sym (get_or-drop at line 0 0) ∙ q)))

  noise-turn : (at : ℕ) → 1 ≤ noise_length (drop at line)
      → (at < length line) × (noise_length (drop at line) ≡ suc (noise_length (drop (at + 1) line))) × (next_frame c (at + 1) line ≡ next_frame c at line)
  noise-turn at some =
      let h : at < length line = inside (leb (length line) at) refl in
      let quiet : get_or line at 0 ≡ 27 → ⊥ = λ q. omega (arith, some, noise-stops line at h q) in
      (h, noise-goes-on line at h quiet, frame-further at h (NoFrame 1 None) (no-outline at h quiet) 1 refl (λ z. omega (arith, z)))
    where
      inside : (b : Bool) → leb (length line) at ≡ b → at < length line
      inside true q = absurd (omega (arith, some, noise-ends line at (leb-true (length line) at q)))
      inside false q = leb-false (length line) at q

  pub noise-further : (k at : ℕ) → k ≤ noise_length (drop at line) → at ≤ length line → (at + k ≤ length line) × (next_frame c (at + k) line ≡ next_frame c at line)
  noise-further zero at h l = let e : at + zero ≡ at = omega arith in (omega arith, ap (λ (m : ℕ). next_frame c m line) e)
  noise-further (suc k) at h l =
      let turn = noise-turn at (omega arith) in
      let rest = noise-further k (at + 1) (omega (arith, turn.1)) (omega (arith, turn.0)) in
      let far : at + suc k ≡ at + 1 + k = omega arith in
      (omega (arith, rest.0), ap (λ (m : ℕ). next_frame c m line) far ∙ rest.1 ∙ turn.2)

-- ---- a turn of the loop: bytes are left, and something is met
pub record MetAt (c : Bool) (line : List ℕ) (at : ℕ) (m : Met) : Type 0 where
  pub left_over : at < length line
  pub is : m ≡ met_of c (drop at line)

module _ {c : Bool} {line : List ℕ} {at : ℕ} {m : Met} (M : MetAt c line at m) where
  abbrev bytes : List ℕ
  bytes = drop at line

  -- what is met is noise, or what the outline says
  by-outline : (P : Type 0)
      → ((w : Head) → outline_of bytes ≡ Ok w → m ≡ MetWhole w → P)
      → ((a : Answer) → outline_of bytes ≡ Err a → m ≡ Past (past_of c a) → P)
      → (1 ≤ noise_length bytes → m ≡ Past (noise_length bytes) → P) → P
  by-outline P whole none noise = go (eqb (noise_length bytes) 0) refl M.is
    where
      said : (o : Result Head Answer) → outline_of bytes ≡ o → m ≡ met_outline c o → P
      said (Ok w) e q = whole w e q
      said (Err a) e q = none a e q

      go : (x : Bool) → eqb (noise_length bytes) 0 ≡ x → m ≡ cond x (met_outline c (outline_of bytes)) (Past (noise_length bytes)) → P
      go true e q = said (outline_of bytes) refl q
      go false e q = noise (omega (arith, eqb-false (noise_length bytes) 0 e)) q

  other : {w : Head} {n : ℕ} {P : Type 0} → m ≡ MetWhole w → m ≡ Past n → P
  other p q = let z : ◌≡◌ {A = ℕ} 0 1 = cc in absurd (omega arith)

  same_head : (v w : Head) → m ≡ MetWhole v → m ≡ MetWhole w → w ≡ v
  same_head v w p q = cc

  same-past : (k n : ℕ) → m ≡ Past k → m ≡ Past n → n ≡ k
  same-past k n p q = cc

  pub met-frame : (w : Head) → m ≡ MetWhole w → Frame w at ≡ next_frame c at line
  met-frame w p =
      by-outline (Frame w at ≡ next_frame c at line)
      (λ v e q. frame_here c line at M.left_over w (e ∙ ap Ok (sym (same_head v w q p))))
      (λ a e q. other p q)
      (λ h q. other p q)

  module _ (n : ℕ) (p : m ≡ Past n) where
    pub met-stop : n ≡ 0 → Nothing at ≡ next_frame c at line
    met-stop z =
        by-outline (Nothing at ≡ next_frame c at line)
        (λ w e q. other q p)
        (λ a e q. frame-stops c line at M.left_over a e n (same-past (past_of c a) n q p) z)
        (λ h q. absurd (omega (arith, h, same-past (noise_length bytes) n q p)))

    pub met-further : (n ≡ 0 → ⊥) → (at + n ≤ length line) × (next_frame c (at + n) line ≡ next_frame c at line)
    met-further z =
        by-outline ((at + n ≤ length line) × (next_frame c (at + n) line ≡ next_frame c at line))
        (λ w e q. other q p)
        (λ a e q.
        let s = same-past (past_of c a) n q p in
        (frame-within c line at M.left_over a e n s z, frame-further c line at M.left_over a e n s z))
        (λ h q. noise-further c line n at (omega (arith, same-past (noise_length bytes) n q p)) (omega (arith, M.left_over)))

-- ---- what is met, by its steps
module _ (c : Bool) (line : List ℕ) (at n : ℕ) (is : n ≡ noise_length (drop at line)) where
  pub met-noise : 0 < n → Past n ≡ met_of c (drop at line)
  met-noise h = rw (ne_eqb (noise_length (drop at line)) 0 (λ e. omega (arith, is, e))) (ap Past is)

  pub met-outline : n ≤ 0 → (o : Result Head Answer) → o ≡ outline_of (drop at line) → met_outline c o ≡ met_of c (drop at line)
  met-outline h o e = rw (eq-eqb (noise_length (drop at line)) 0 (omega (arith, is))) (ap (met_outline c) e)
