-- The block of a payload, put together part by part.
use Prim.Native.Nat.{ℕ, ◌+◌, ◌-◌, ◌*◌, ◌/◌, ◌%◌, ◌≤◌}
use mathlib.Core.Path.{◌≡◌, refl, sym, ap, ap₂, ◌∙◌}
use mathlib.Core.List.{List, [], ◌∷◌, ◌++◌, append_assoc}
use native.Mathlib.Omega.{arith}
use lib.ListN.{length, set, drop, replicate, length-append, length-replicate, replicate-append-replicate}
use lib.Seq.{paste, take-length, take_all, drop_at, set_at, drop-append-add, append_snoc}
use Rattle.fletcher.specs.declared.Sums.{Sums}
use Rattle.fletcher.specs.Fletcher.{sums_of, with_byte, with_bytes, fletcher, between}
use Rattle.fletcher.proofs.FletcherLaws.{with_bytes-append, reduced-byte, first_byte, sums-behind, zeros-behind}
use Rattle.capture.specs.Blocks.{checked_of, block_of}

pub headed-is : (z : List ℕ) → z ≡ replicate 512 0 → (p hi lo : ℕ)
    → set (set (set z 3 p) 4 hi) 5 lo ≡ 0 ∷ 0 ∷ 0 ∷ p ∷ hi ∷ lo ∷ replicate 506 0
headed-is z is p hi lo = rw is refl

-- zeros less so many, and two zeros more
abbrev zeros : ℕ → List ℕ
zeros k = replicate k 0

drop-zeros : (n k : ℕ) → n ≤ k → drop n (zeros k) ≡ zeros (k - n)
drop-zeros n k h =
    let e : n + (k - n) ≡ k = omega arith in
    ap (λ (j : ℕ). drop n (zeros j)) (sym e) ∙ ap (drop n) (sym (replicate-append-replicate n (k - n) 0))
    ∙ drop_at (zeros n) (zeros (k - n)) n (length-replicate n 0)

two-more : (n : ℕ) → n ≤ 504 → zeros (506 - n) ≡ zeros (504 - n) ++ (0 ∷ 0 ∷ [])
two-more n h =
    let e : 506 - n ≡ 504 - n + 2 = omega arith in
    ap zeros e ∙ sym (replicate-append-replicate (504 - n) 2 0)

module _ (p : ℕ) (x : List ℕ) (low : p ≤ 128) (fits : length x ≤ 504) where
  abbrev head : List ℕ
  head = 0 ∷ 0 ∷ 0 ∷ p ∷ length x / 256 ∷ length x % 256 ∷ []

  checked-is : checked_of p x ≡ head ++ (x ++ zeros (504 - length x))
  unfolding checked_of
  checked-is =
      let a : p / 16777216 ≡ 0 = omega arith in
      let b : p / 65536 % 256 ≡ 0 = omega arith in
      let c : p / 256 % 256 ≡ 0 = omega arith in
      let e : p % 256 ≡ p = omega arith in
      rw (a, b, c, e) refl

  pub filled_is : (d : List ℕ) → d ≡ 0 ∷ 0 ∷ 0 ∷ p ∷ length x / 256 ∷ length x % 256 ∷ replicate 506 0
      → paste d 6 x (length x) ≡ checked_of p x ++ (0 ∷ 0 ∷ [])
  filled_is d is =
      let n = length x in
      let behind : drop (6 + n) d ≡ zeros (504 - n) ++ (0 ∷ 0 ∷ []) =
      ap (drop (6 + n)) is ∙ drop-append-add head (zeros 506) n ∙ drop-zeros n 506 (omega arith) ∙ two-more n fits in
      rw (checked-is, take-length, behind, is) (ap (λ (l : List ℕ). head ++ l) (sym (append_assoc x (zeros (504 - n)) (0 ∷ 0 ∷ []))))

  pub length-checked : length (checked_of p x) ≡ 510
  unfolding checked_of
  length-checked = rw (length-append, length-replicate) (omega arith)

  -- the sums of its first 510 bytes, by those of the payload
  pub checked-sums : (s : Sums) → s ≡ fletcher x
      → sums_of ((p + length x / 256 + length x % 256 + s.first) % 255)
      ((507 * p + 506 * (length x / 256) + 505 * (length x % 256) + s.second + (504 - length x) * s.first) % 255)
      ≡ fletcher (checked_of p x)
  unfolding fletcher
  checked-sums s is =
      let hi = length x / 256 in
      let lo = length x % 256 in
      let k = 504 - length x in
      let rest = x ++ zeros k in
      let f = fletcher rest in
      let heads : with_bytes (sums_of 0 0) head ≡ sums_of ((p + hi + lo) % 255) ((p + (p + hi) + (p + hi + lo)) % 255) =
      ap (λ (t : Sums). with_byte (with_byte t hi) lo) (first_byte p) ∙ ap (λ (t : Sums). with_byte t lo) (reduced-byte p p hi) ∙ reduced-byte (p + hi) (p + (p + hi)) lo in
      let long : length rest ≡ 504 = rw (length-append, length-replicate) (omega arith) in
      let own : f ≡ sums_of s.first ((s.second + k * s.first) % 255) =
      zeros-behind x k ∙ ap (λ (t : Sums). sums_of t.first ((t.second + k * t.first) % 255)) (sym is) in
      let all : fletcher (checked_of p x) ≡ sums_of ((p + hi + lo + f.first) % 255) ((p + (p + hi) + (p + hi + lo) + length rest * (p + hi + lo) + f.second) % 255) =
      ap (with_bytes (sums_of 0 0)) checked-is ∙ with_bytes-append (sums_of 0 0) head rest ∙ ap (λ (t : Sums). with_bytes t rest) heads
      ∙ sums-behind (p + hi + lo) (p + (p + hi) + (p + hi + lo)) rest in
      sym (all
      ∙ ap₂ sums_of (ap (λ (t : Sums). (p + hi + lo + t.first) % 255) own)
      (ap (λ (n : ℕ). (p + (p + hi) + (p + hi + lo) + n * (p + hi + lo) + f.second) % 255) long
      ∙ ap (λ (t : Sums). (p + (p + hi) + (p + hi + lo) + 504 * (p + hi + lo) + t.second) % 255) own ∙ omega arith))

  pub block-is : (b : List ℕ) (s : Sums) → b ≡ checked_of p x ++ (0 ∷ 0 ∷ []) → s ≡ fletcher (checked_of p x)
      → set (set b 510 s.first) 511 s.second ≡ block_of p x
  unfolding block_of
  block-is b s is same =
      let c = checked_of p x in
      let long : length (c ++ (s.first ∷ [])) ≡ 511 = rw (length-append, length-checked) (omega arith) in
      ap (λ (l : List ℕ). set (set l 510 s.first) 511 s.second) is
      ∙ ap (λ (l : List ℕ). set l 511 s.second) (set_at c 0 (0 ∷ []) s.first 510 length-checked ∙ sym (append_snoc c s.first (0 ∷ [])))
      ∙ set_at (c ++ (s.first ∷ [])) 0 [] s.second 511 long
      ∙ append_snoc c s.first (s.second ∷ [])
      ∙ ap (λ (t : Sums). c ++ (t.first ∷ t.second ∷ [])) same

-- a payload that fits is summed whole
pub summed-whole : (x : List ℕ) (s : Sums) → length x ≤ 504 → s ≡ fletcher (between 0 2048 x) → s ≡ fletcher x
summed-whole x s fits is = is ∙ ap fletcher (take_all 2048 x (omega arith))
