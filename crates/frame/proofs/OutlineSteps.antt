-- The outline check by check: which number the first check that fails answers. Over any header.
use Prim.Native.Nat.{ℕ, ◌+◌, ◌-◌, ◌≤◌, ◌<◌}
use mathlib.Core.Path.{◌≡◌, sym, ap, ap₂, ◌∙◌}
use mathlib.Core.Bool.{true, false}
use mathlib.Core.List.{List, ◌++◌}
use native.Mathlib.Omega.{arith}
use lib.ListN.{length, get_or, take, drop, length-append, length-drop}
use lib.Seq.{take-append-le, drop-append-le, drop-drop}
use lib.Dec.{eqb}
use borrow.Author.Tests.{eq-eqb, ne_eqb, le-leb, lt-leb}
use Rattle.words.specs.Xor.{xor_of}
use Rattle.digits.proofs.Bools.{and_both}
use Rattle.layout.specs.Checks.{first_fail}
use Rattle.frame.specs.Header.{Header, length_at, length_end, start, around, length_bytes, length_of, own, inner, body, head_good, check_byte, ended, right_length, length_right, last_checks, outline_checks, Outlined}
use Rattle.frame.specs.Codec.{HeaderLaw}
use Rattle.frame.proofs.HeaderLaws.{part-taken, around-length, length-own}

-- ---- the first check that fails, up to the frame's own bytes
module _ (H : Header) (t : List ℕ) where
  pub fails-empty : length t < 1 → first_fail (outline_checks H t) ≡ 2
  fails-empty h = rw (lt-leb 1 (length t) h)

  module _ (some : 1 ≤ length t) where
    pub fails-first : (get_or t 0 0 ≡ 27 → ⊥) → first_fail (outline_checks H t) ≡ 1
    fails-first h = rw (le-leb 1 (length t) some, ne_eqb (get_or t 0 0) 27 h)

    module _ (starts : get_or t 0 0 ≡ 27) where
      pub fails-header : length t < length_end H → first_fail (outline_checks H t) ≡ 2
      fails-header h = rw (le-leb 1 (length t) some, eq-eqb (get_or t 0 0) 27 starts, lt-leb (length_end H) (length t) h)

      module _ (headed : length_end H ≤ length t) where
        pub passed-header : first_fail (outline_checks H t) ≡ first_fail (drop 3 (outline_checks H t))
        passed-header = rw (le-leb 1 (length t) some, eq-eqb (get_or t 0 0) 27 starts, le-leb (length_end H) (length t) headed)

        pub fails-length : length_right H t ≡ false → first_fail (outline_checks H t) ≡ 3
        fails-length h = passed-header ∙ rw h

        module _ (right : length_right H t ≡ true) where
          pub fails-whole : length t < length_of H t → first_fail (outline_checks H t) ≡ 2
          fails-whole h = passed-header ∙ rw (right, lt-leb (length_of H t) (length t) h)

          -- what is left is said of the frame's own bytes
          pub passed-whole : length_of H t ≤ length t → first_fail (outline_checks H t) ≡ first_fail (last_checks H (own H t))
          passed-whole whole = passed-header ∙ rw (right, le-leb (length_of H t) (length t) whole)

-- ---- the last checks, on a frame's own bytes f
module _ (H : Header) (f : List ℕ) where
  pub fails-return : (get_or f (length f - 2) 0 ≡ 13 → ⊥) → first_fail (last_checks H f) ≡ 4
  fails-return h = rw (ne_eqb (get_or f (length f - 2) 0) 13 h)

  module _ (cr : get_or f (length f - 2) 0 ≡ 13) where
    pub fails-feed : (get_or f (length f - 1) 0 ≡ 10 → ⊥) → first_fail (last_checks H f) ≡ 4
    fails-feed h = rw (eq-eqb (get_or f (length f - 2) 0) 13 cr, ne_eqb (get_or f (length f - 1) 0) 10 h)

    module _ (lf : get_or f (length f - 1) 0 ≡ 10) (x : ℕ) (is : x ≡ xor_of (take (length f - 3 - 1) (drop 1 f))) where
      ends : ended f ≡ true
      ends = and_both (eq-eqb (get_or f (length f - 2) 0) 13 cr) (eq-eqb (get_or f (length f - 1) 0) 10 lf)

      covers : xor_of (inner f) ≡ x
      covers =
          let e : length f - 3 - 1 ≡ length f - 4 = omega arith in
          sym (is ∙ ap (λ (k : ℕ). xor_of (take k (drop 1 f))) e)

      pub fails-check : (get_or f (length f - 3) 0 ≡ x → ⊥) → first_fail (last_checks H f) ≡ 5
      fails-check h = rw (ends, ne_eqb (check_byte f) (xor_of (inner f)) (λ q. h (q ∙ covers)))

      module _ (same : get_or f (length f - 3) 0 ≡ x) where
        checked : eqb (check_byte f) (xor_of (inner f)) ≡ true
        checked = eq-eqb (check_byte f) (xor_of (inner f)) (same ∙ sym covers)

        pub fails-head : head_good H f ≡ false → first_fail (last_checks H f) ≡ 6
        fails-head h = rw (ends, checked, h)

        pub fails-nothing : head_good H f ≡ true → first_fail (last_checks H f) ≡ 0
        fails-nothing h = rw (ends, checked, h)

-- ---- a frame at a place on a line, and its body as the part `&line[s..e]`
module _ (H : Header) (law : HeaderLaw H) where
  pub body-part : (line : List ℕ) (at s e : ℕ) → Outlined H (drop at line) → s ≡ at + start H → e + 3 ≡ at + length_of H (drop at line)
      → take (e - s) (drop s line) ≡ body H (own H (drop at line))
  body-part line at s e o p q =
      let t = drop at line in
      let n : length (own H t) ≡ length_of H t = length-own H law t o in
      let big = around-length H law t o in
      let k : e - s ≡ length (own H t) - around H = omega arith in
      ap₂ (λ (i : ℕ) (j : ℕ). take i (drop j line)) k p
      ∙ ap (take (length (own H t) - around H)) (sym (drop-drop (start H) at line))
      ∙ sym (part-taken (length (own H t) - around H) (start H) (length_of H t) t (omega (arith, big)))

-- ---- bytes behind
module _ (H : Header) (t u : List ℕ) where
  pub longer : length t ≤ length (t ++ u)
  longer = omega (arith, length-append t u)

  pub more-first : 1 ≤ length t → get_or (t ++ u) 0 0 ≡ get_or t 0 0
  more-first h = lib.ListN.get_or-append t u 0 0 h

  pub more_bytes : length_end H ≤ length t → length_bytes H (t ++ u) ≡ length_bytes H t
  more_bytes h =
      ap (take 2) (drop-append-le (length_at H) t u (omega arith))
      ∙ take-append-le 2 (drop (length_at H) t) u (omega (arith, length-drop (length_at H) t))

  pub more-right : length_end H ≤ length t → length_right H (t ++ u) ≡ length_right H t
  more-right h = ap (right_length H) (more_bytes h)

  pub more-length : length_end H ≤ length t → length_of H (t ++ u) ≡ length_of H t
  more-length h = ap (λ (bs : List ℕ). H.whole (Rattle.digits.specs.Packed.value bs)) (more_bytes h)

  pub more-own : length_end H ≤ length t → length_of H t ≤ length t → own H (t ++ u) ≡ own H t
  more-own h w = ap (λ (k : ℕ). take k (t ++ u)) (more-length h) ∙ take-append-le (length_of H t) t u w
