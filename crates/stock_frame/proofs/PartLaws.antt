-- What a reader of frames goes by: what the outline's answer tells, where the body stands on the line, and that bytes behind a frame change nothing.
use Rattle.std.specs.Prelude.{Err, None, Ok}
use Prim.Native.Nat.{ℕ, ◌+◌, ◌-◌, ◌≤◌}
use mathlib.Core.Path.{◌≡◌, refl, sym, ap, ◌∙◌}
use mathlib.Core.Bool.{Bool, true, false, cond}
use mathlib.Core.List.{List, ◌++◌}
use native.Mathlib.Omega.{arith}
use lib.ListN.{length, get_or, take, drop}
use lib.Dec.{eqb, leb}
use borrow.Author.Tests.{eqb-true, eqb-false, leb-true, leb-false}
use Rattle.layout.specs.Checks.{first_fail}
use Rattle.layout.specs.Places.{first_bad}
use Rattle.answers.specs.Answers.{named}
use Rattle.frame.proofs.OutlineSteps as common
use Rattle.stock_frame.specs.Outline.{header, length_bytes, length_of, own, body, length_cells, length_right, outline_checks, head_of, outline_place, outline_of}
use Rattle.stock_frame.specs.Reads.{Outlined}
use Rattle.stock_frame.specs.declared.head.Head.{Head}
use Rattle.answers.specs.declared.Answer.{Answer}
use Rattle.answers.specs.declared.Answer.TheVariants.{NoFrame}
use Rattle.stock_frame.proofs.OutlineLaws.{header-law, passes-outlined}
use Rattle.stock_frame.proofs.OutlineSteps.{answered, check-none, check-first, check-three, check-length, check-whole, outline-own}

-- ---- what the answer tells
module _ (t : List ℕ) where
  -- a whole outline is one whose checks all hold, and its header is that of the frame's own bytes
  pub whole-outlined : (h : Head) → outline_of t ≡ Ok h → Outlined t × (h ≡ head_of (own t))
  whole-outlined h e = go (eqb (first_fail (outline_checks t)) 0) refl (answered t (first_fail (outline_checks t)) refl ∙ e)
    where
      go : (b : Bool) → eqb (first_fail (outline_checks t)) 0 ≡ b
          → cond b (Ok (head_of (own t))) (Err (named (first_fail (outline_checks t)) (record { format = 0; seq = 0; length = length_of t }) (outline_place (first_fail (outline_checks t)) t))) ≡ Ok h
          → Outlined t × (h ≡ head_of (own t))
      go true z q = (passes-outlined t (eqb-true (first_fail (outline_checks t)) 0 z), cc)
      go false z q = let x : ◌≡◌ {A = ℕ} 0 1 = cc in absurd (omega arith)

  -- any other outline is the answer of the first check that fails
  pub not-outlined : (a : Answer) → outline_of t ≡ Err a
      → (first_fail (outline_checks t) ≡ 0 → ⊥) × (a ≡ named (first_fail (outline_checks t)) (record { format = 0; seq = 0; length = length_of t }) (outline_place (first_fail (outline_checks t)) t))
  not-outlined a e = go (eqb (first_fail (outline_checks t)) 0) refl (answered t (first_fail (outline_checks t)) refl ∙ e)
    where
      go : (b : Bool) → eqb (first_fail (outline_checks t)) 0 ≡ b
          → cond b (Ok (head_of (own t))) (Err (named (first_fail (outline_checks t)) (record { format = 0; seq = 0; length = length_of t }) (outline_place (first_fail (outline_checks t)) t))) ≡ Err a
          → (first_fail (outline_checks t) ≡ 0 → ⊥) × (a ≡ named (first_fail (outline_checks t)) (record { format = 0; seq = 0; length = length_of t }) (outline_place (first_fail (outline_checks t)) t))
      go true z q = let x : ◌≡◌ {A = ℕ} 0 1 = cc in absurd (omega arith)
      go false z q = (eqb-false (first_fail (outline_checks t)) 0 z, cc)

-- the body of the frame at a place, as the part `&line[s..e]`
pub body-part : (line : List ℕ) (at s e : ℕ) → Outlined (drop at line) → s ≡ at + 10 → e + 3 ≡ at + length_of (drop at line)
    → take (e - s) (drop s line) ≡ body (own (drop at line))
body-part = common.body-part header header-law

-- ---- bytes behind: an answer other than 2 stays
module _ (t u : List ℕ) where
  longer : length t ≤ length (t ++ u)
  longer = common.longer header t u

  more-first : 1 ≤ length t → get_or (t ++ u) 0 0 ≡ get_or t 0 0
  more-first = common.more-first header t u

  more_bytes : 3 ≤ length t → length_bytes (t ++ u) ≡ length_bytes t
  more_bytes = common.more_bytes header t u

  more-right : 3 ≤ length t → length_right (t ++ u) ≡ length_right t
  more-right = common.more-right header t u

  more-length : 3 ≤ length t → length_of (t ++ u) ≡ length_of t
  more-length = common.more-length header t u

  module _ (settled : outline_of t ≡ Err (NoFrame 2 None) → ⊥) where
    pub outline-more : outline_of (t ++ u) ≡ outline_of t
    outline-more = some (leb 1 (length t)) refl
      where
        whole : (three : 3 ≤ length t) → get_or t 0 0 ≡ 27 → length_right t ≡ true → (b : Bool) → leb (length_of t) (length t) ≡ b → outline_of (t ++ u) ≡ outline_of t
        whole three s r true e =
            let w : length_of t ≤ length t = leb-true (length_of t) (length t) e in
            let m : length_of (t ++ u) ≤ length (t ++ u) = omega (arith, longer, more-length three) in
            sym (outline-own (t ++ u) (more-first (omega arith) ∙ s) (omega (arith, longer)) (more-right three ∙ r) m)
            ∙ ap outline_of (common.more-own header t u three w)
            ∙ outline-own t s three r w
        whole three s r false e = absurd (settled (sym (check-whole t (omega arith) s three r (leb-false (length_of t) (length t) e))))

        right : (three : 3 ≤ length t) → get_or t 0 0 ≡ 27 → (b : Bool) → length_right t ≡ b → outline_of (t ++ u) ≡ outline_of t
        right three s true e = whole three s e (leb (length_of t) (length t)) refl
        right three s false e =
            sym (check-length (t ++ u) (omega (arith, longer)) (more-first (omega arith) ∙ s) (omega (arith, longer)) (more-right three ∙ e))
            ∙ ap (λ (bs : List ℕ). Err (NoFrame 3 (first_bad length_cells 2 bs))) (more_bytes three)
            ∙ check-length t (omega arith) s three e

        headed : (some : 1 ≤ length t) → get_or t 0 0 ≡ 27 → (b : Bool) → leb 3 (length t) ≡ b → outline_of (t ++ u) ≡ outline_of t
        headed h s true e = right (leb-true 3 (length t) e) s (length_right t) refl
        headed h s false e = absurd (settled (sym (check-three t h s (leb-false 3 (length t) e))))

        starts : (some : 1 ≤ length t) → (b : Bool) → eqb (get_or t 0 0) 27 ≡ b → outline_of (t ++ u) ≡ outline_of t
        starts h true e = headed h (eqb-true (get_or t 0 0) 27 e) (leb 3 (length t)) refl
        starts h false e =
            let n : get_or t 0 0 ≡ 27 → ⊥ = eqb-false (get_or t 0 0) 27 e in
            sym (check-first (t ++ u) (omega (arith, longer)) (λ q. n (sym (more-first h) ∙ q))) ∙ check-first t h n

        some : (b : Bool) → leb 1 (length t) ≡ b → outline_of (t ++ u) ≡ outline_of t
        some true e = starts (leb-true 1 (length t) e) (eqb (get_or t 0 0) 27) refl
        some false e = absurd (settled (sym (check-none t (leb-false 1 (length t) e))))
