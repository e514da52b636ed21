-- The outline check by check: what the first check that fails answers, over a line from a place on and over a frame's own bytes.
use Rattle.std.specs.Prelude.{Err, None, Ok, Option, Some}
use Prim.Native.Nat.{ℕ, ◌+◌, ◌-◌, ◌≤◌, ◌<◌}
use mathlib.Core.Path.{◌≡◌, refl, sym, ap, ap₂, ◌∙◌}
use mathlib.Core.Bool.{true, false, cond}
use mathlib.Core.List.{List, [], ◌∷◌}
use native.Mathlib.Omega.{arith}
use lib.ListN.{length, get_or, take, drop, length-drop}
use lib.Seq.{length-take-le}
use lib.Dec.{eqb}
use Rattle.digits.specs.Packed.{value}
use Rattle.words.specs.Xor.{xor_of}
use Rattle.layout.specs.Places.{first_bad}
use Rattle.layout.specs.Checks.{first_fail}
use Rattle.answers.specs.Answers.{named}
use Rattle.answers.specs.declared.Answer.TheVariants.{NoFrame, Refused}
use Rattle.frame.specs.Header.{length_cells, length_bytes, length_of, own, head_good, head_bad, right_length, length_right, last_checks, outline_checks, outline_place}
use Rattle.frame.proofs.HeaderLaws.{right-length}
use Rattle.frame.proofs.OutlineSteps.{fails-empty, fails-first, fails-header, fails-length, fails-whole, passed-whole, fails-return, fails-feed, fails-check, fails-head, fails-nothing}
use Rattle.derivatives_frame.specs.Outline.{header, head_of, outline_of}
use Rattle.derivatives_frame.specs.Steps.{own_outline}
use Rattle.derivatives_frame.specs.declared.head.Head.{Head}
use Rattle.derivatives_frame.proofs.HeaderHolds.{law}
use Rattle.frame.proofs.LineSteps.{first-at, length-bytes-at, length_none, length_some, last-place}

-- ---- the answer of a number
pub answered : (t : List ℕ) (k : ℕ) → first_fail (outline_checks header t) ≡ k
    → cond (eqb k 0) (Ok (head_of (own header t))) (Err (named k (record { format = 0; seq = 0; length = length_of header t }) (outline_place header k t))) ≡ outline_of t
unfolding outline_of
answered t k e =
    ap (λ (n : ℕ). cond (eqb n 0) (Ok (head_of (own header t))) (Err (named n (record { format = 0; seq = 0; length = length_of header t }) (outline_place header n t)))) (sym e)

own-answered : (f : List ℕ) (k : ℕ) → first_fail (last_checks header f) ≡ k
    → cond (eqb k 0) (Ok (head_of f)) (Err (named k (record { format = 0; seq = 0; length = length f }) (cond (eqb k 6) (head_bad header f) None))) ≡ own_outline f
unfolding own_outline
own-answered f k e =
    ap (λ (n : ℕ). cond (eqb n 0) (Ok (head_of f)) (Err (named n (record { format = 0; seq = 0; length = length f }) (cond (eqb n 6) (head_bad header f) None)))) (sym e)

-- ---- a frame's own bytes f, test by test
module _ (f : List ℕ) where
  pub own-return : (get_or f (length f - 2) 0 ≡ 13 → ⊥) → Err (NoFrame 4 None) ≡ own_outline f
  own-return h = own-answered f 4 (fails-return header f h)

  module _ (cr : get_or f (length f - 2) 0 ≡ 13) where
    pub own-feed : (get_or f (length f - 1) 0 ≡ 10 → ⊥) → Err (NoFrame 4 None) ≡ own_outline f
    own-feed h = own-answered f 4 (fails-feed header f cr h)

    module _ (lf : get_or f (length f - 1) 0 ≡ 10) (x : ℕ) (is : x ≡ xor_of (take (length f - 3 - 1) (drop 1 f))) where
      pub own-check : (get_or f (length f - 3) 0 ≡ x → ⊥) → Err (NoFrame 5 None) ≡ own_outline f
      own-check h = own-answered f 5 (fails-check header f cr lf x is h)

      module _ (same : get_or f (length f - 3) 0 ≡ x) where
        pub own-head : head_good header f ≡ false → (p : Option ℕ) → p ≡ head_bad header f → Err (Refused 6 (length f) p) ≡ own_outline f
        own-head b p at = ap (λ (y : Option ℕ). Err (Refused 6 (length f) y)) at ∙ own-answered f 6 (fails-head header f cr lf x is same b)

        pub own-whole : head_good header f ≡ true → (h : Head) → h ≡ head_of f → Ok h ≡ own_outline f
        own-whole g h tells = ap Ok tells ∙ own-answered f 0 (fails-nothing header f cr lf x is same g)

-- ---- the outline is that of the frame's own bytes
pub outline-own : (t : List ℕ) → get_or t 0 0 ≡ 27 → 14 ≤ length t → length_right header t ≡ true → length_of header t ≤ length t → own_outline (own header t) ≡ outline_of t
unfolding outline_of own_outline
outline-own t starts headed right whole =
    let f = own header t in
    let n = first_fail (last_checks header f) in
    let checks : first_fail (outline_checks header t) ≡ n = passed-whole header t (omega arith) starts headed right whole in
    ap₂ (λ (l : ℕ) (p : Option ℕ). cond (eqb n 0) (Ok (head_of f)) (Err (named n (record { format = 0; seq = 0; length = l }) p)))
    (length-take-le (length_of header t) t whole) (sym (last-place header t))
    ∙ ap (λ (k : ℕ). cond (eqb k 0) (Ok (head_of f)) (Err (named k (record { format = 0; seq = 0; length = length_of header t }) (outline_place header k t)))) (sym checks)

-- the whole length that the two bytes of a body's length give, if they give one
abbrev pub length_in : ℕ → ℕ → Option ℕ
length_in a b = cond (right_length header (a ∷ b ∷ [])) (Some (header.whole (value (a ∷ b ∷ [])))) None

-- ---- a line from a place on, test by test
module _ (line : List ℕ) (at : ℕ) where
  pub line-none : length line ≤ at → Err (NoFrame 2 None) ≡ outline_of (drop at line)
  line-none h = answered (drop at line) 2 (fails-empty header (drop at line) (rw length-drop (omega arith)))

  module _ (some : at < length line) where
    some_at : 1 ≤ length (drop at line)
    some_at = rw length-drop (omega arith)

    pub line_first : (get_or line at 0 ≡ 27 → ⊥) → Err (NoFrame 1 None) ≡ outline_of (drop at line)
    line_first h = answered (drop at line) 1 (fails-first header (drop at line) some_at (λ q. h (sym (first-at line at) ∙ q)))

    module _ (starts : get_or line at 0 ≡ 27) where
      starts-at : get_or (drop at line) 0 0 ≡ 27
      starts-at = first-at line at ∙ starts

      pub line-header : length line - at < 14 → Err (NoFrame 2 None) ≡ outline_of (drop at line)
      line-header h = answered (drop at line) 2 (fails-header header (drop at line) some_at starts-at (rw length-drop h))

      module _ (headed : 14 ≤ length line - at) (r : Option ℕ) (is : r ≡ length_in (get_or line (at + 12) 0) (get_or line (at + 13) 0)) where
        headed-at : 14 ≤ length (drop at line)
        headed-at = rw length-drop headed

        length_at : r ≡ cond (length_right header (drop at line)) (Some (length_of header (drop at line))) None
        length_at =
            is
            ∙ ap (λ (bs : List ℕ). cond (right_length header bs) (Some (header.whole (value bs))) None)
            (sym (length-bytes-at header line at (at + 12) (at + 13) refl (omega arith) (omega arith)))

        pub line-length : r ≡ None → (p : Option ℕ) → p ≡ first_bad length_cells 24 (length_bytes header (drop at line)) → Err (NoFrame 3 p) ≡ outline_of (drop at line)
        line-length z p said =
            ap (λ (x : Option ℕ). Err (NoFrame 3 x)) said
            ∙ answered (drop at line) 3 (fails-length header (drop at line) some_at starts-at headed-at (length_none header (drop at line) r length_at z))

        module _ (n : ℕ) (length-is : r ≡ Some n) where
          right-at : length_right header (drop at line) ≡ true
          right-at = (length_some header (drop at line) r length_at n length-is).0

          told_at : n ≡ length_of header (drop at line)
          told_at = (length_some header (drop at line) r length_at n length-is).1

          pub line-whole : length line - at < n → Err (NoFrame 2 None) ≡ outline_of (drop at line)
          line-whole h =
              answered (drop at line) 2 (fails-whole header (drop at line) some_at starts-at headed-at right-at (rw (length-drop, ← told_at) h))

          module _ (whole : n ≤ length line - at) where
            whole-at : length_of header (drop at line) ≤ length (drop at line)
            whole-at = rw (length-drop, ← told_at) whole

            part-own : take (at + n - at) (drop at line) ≡ own header (drop at line)
            part-own = let e : at + n - at ≡ n = omega arith in ap (λ (k : ℕ). take k (drop at line)) (e ∙ told_at)

            -- what the frame's own part has to be
            pub line-part : (17 ≤ length (take (at + n - at) (drop at line))) × (length (take (at + n - at) (drop at line)) ≤ 1024)
            line-part =
                let t = drop at line in
                let count = ap length part-own ∙ length-take-le (length_of header t) t whole-at in
                let range = right-length header law t right-at in
                (omega (arith, count, range.0), omega (arith, count, range.1))

            pub line-own : own_outline (take (at + n - at) (drop at line)) ≡ outline_of (drop at line)
            line-own = ap own_outline part-own ∙ outline-own (drop at line) starts-at headed-at right-at whole-at
