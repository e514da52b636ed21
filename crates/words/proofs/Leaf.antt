-- Eight bytes of packed digits worked out side by side in one number: what the masks and products of `halves::digits` come to.
use Prim.Native.Nat.{ℕ, zero, suc, ◌+◌, ◌*◌, ◌/◌, ◌%◌, ◌<◌}
use mathlib.Core.Path.{◌≡◌, refl, ap, ap₂, ◌∙◌}
use mathlib.Core.Bool.{Bool, true, false, cond, ◌&&◌}
use mathlib.Core.List.{List, [], ◌∷◌}
use native.Mathlib.Omega.{arith}
use native.Mathlib.Nat.{zero-add}
use lib.Dec.{leb, eqb}
use lib.Pow.{low, high}
use lib.Bits.{bit_and, bit_or, and_high, or_shr, or_lt}
use borrow.Author.Tests.{leb-true, leb-false, eqb-true, eqb-false, eq-eqb, ne_eqb}
use Rattle.digits.specs.Packed.{good, two}
use Rattle.words.specs.Blocks.{block_of}
use Rattle.words.specs.declared.blocks.Block.{Block}
use Rattle.words.proofs.Lanes.{word, lows, twice, add-each, sum-each, or-each, mask-each, low-each, high-each, join-each}

-- the n fields of a word as a list
abbrev pub fields : ℕ → (ℕ → ℕ) → List ℕ
fields zero f = []
fields (suc n) f = f 0 ∷ fields n (λ i. f (suc i))

-- 0 where two halves are digits: 6 more is below 16
abbrev flag : ℕ → ℕ → ℕ
flag u v = bit_and (bit_or (u + 6) (v + 6)) 16

-- the flag of two halves is the test of the byte
flag_is : (u v : ℕ) → u < 16 → v < 16 → eqb (flag u v) 0 ≡ leb u 9 && leb v 9
flag_is u v hu hv =
    ap (λ (x : ℕ). eqb x 0) (and_high (bit_or (u + 6) (v + 6)) 1 4)
    ∙ ap (λ (x : ℕ). eqb (x % 2 * 16) 0) (or_shr (u + 6) (v + 6) 4 ∙ ap₂ bit_or (carry u hu) (carry v hv))
    ∙ both (leb u 9) (leb v 9)
  where
    carry : (d : ℕ) → d < 16 → (d + 6) / 16 ≡ cond (leb d 9) 0 1
    carry d h = go (leb d 9) refl
      where
        go : (t : Bool) → leb d 9 ≡ t → (d + 6) / 16 ≡ cond t 0 1
        go true e = omega (arith, leb-true d 9 e)
        go false e = omega (arith, leb-false d 9 e)

    both : (s t : Bool) → eqb (bit_or (cond s 0 1) (cond t 0 1) % 2 * 16) 0 ≡ s && t
    both true true = refl
    both true false = refl
    both false true = refl
    both false false = refl

-- a word is 0 where its first field and the rest are
zero-both : (w d : ℕ) → eqb (w * 256 + d) 0 ≡ eqb d 0 && eqb w 0
zero-both w d = go (eqb d 0) (eqb w 0) refl refl
  where
    go : (s t : Bool) → eqb d 0 ≡ s → eqb w 0 ≡ t → eqb (w * 256 + d) 0 ≡ s && t
    go true true e l = eq-eqb (w * 256 + d) 0 (omega (arith, eqb-true d 0 e, eqb-true w 0 l))
    go true false e l = ne_eqb (w * 256 + d) 0 (λ z. eqb-false w 0 l (omega arith))
    go false t e l = ne_eqb (w * 256 + d) 0 (λ z. eqb-false d 0 e (omega arith))

-- no flag is set where all bytes are good
flags : (n : ℕ) (b : ℕ → ℕ) → ((i : ℕ) → b i < 256) → eqb (word 8 n (λ i. flag (b i / 16) (b i % 16))) 0 ≡ good (fields n b)
flags zero b h = refl
flags (suc n) b h =
    zero-both (word 8 n (λ i. flag (b (suc i) / 16) (b (suc i) % 16))) (flag (b 0 / 16) (b 0 % 16))
    ∙ ap₂ ◌&&◌ (flag_is (b 0 / 16) (b 0 % 16) (omega (arith, h 0)) (omega (arith, h 0))) (flags n (λ i. b (suc i)) (λ i. h (suc i)))

-- the leaf's steps over the whole number: the high halves
abbrev highs : ℕ → ℕ
highs x = bit_and (x / 16) (lows 4 8)

-- the low halves
abbrev lowers : ℕ → ℕ
lowers x = bit_and x (lows 4 8)

-- the flags
abbrev bads : ℕ → ℕ
bads x = bit_and (bit_or (highs x + word 8 8 (λ _. 6)) (lowers x + word 8 8 (λ _. 6))) (word 8 8 (λ _. 16))

-- the digits of each byte
abbrev pub ones : ℕ → ℕ
ones x = highs x * 10 + lowers x

-- of two bytes
abbrev pub twos : ℕ → ℕ
twos x = let y = ones x in bit_and y (lows 8 4) * 100 + bit_and (y / 256) (lows 8 4)

-- of four bytes
abbrev pub fours : ℕ → ℕ
fours x = let z = twos x in bit_and z (lows 16 2) * 10000 + bit_and (z / 65536) (lows 16 2)

-- halves by their fields
abbrev made : Bool → ℕ → ℕ → Block
made g f l = record { good = g; first = f; last = l }

-- what the leaf answers
abbrev pub leaf_of : ℕ → Block
leaf_of x = made (eqb (bads x) 0) (fours x % 4294967296) (fours x / 4294967296)

-- the digits of four bytes, by twos and one by one
quad : (s t u v : ℕ) → (s * 100 + t) * 10000 + (u * 100 + v) ≡ (((0 * 100 + s) * 100 + t) * 100 + u) * 100 + v
quad s t u v = omega arith

-- each step over eight bytes b, whatever they are, as a word of fields
module _ (b : ℕ → ℕ) (h : (i : ℕ) → b i < 256) where
  high_is : highs (word 8 8 b) ≡ word 8 8 (λ i. b i / 16)
  high_is = high-each 4 8 b h

  low-is : lowers (word 8 8 b) ≡ word 8 8 (λ i. b i % 16)
  low-is = low-each 4 8 b h

  bads-is : bads (word 8 8 b) ≡ word 8 8 (λ i. flag (b i / 16) (b i % 16))
  bads-is =
      ap₂ (λ (u v : ℕ). bit_and (bit_or u v) (word 8 8 (λ _. 16)))
      (ap (λ (u : ℕ). u + word 8 8 (λ _. 6)) high_is ∙ add-each 8 8 (λ i. b i / 16) (λ _. 6))
      (ap (λ (u : ℕ). u + word 8 8 (λ _. 6)) low-is ∙ add-each 8 8 (λ i. b i % 16) (λ _. 6))
      ∙ ap (λ (u : ℕ). bit_and u (word 8 8 (λ _. 16))) (or-each 8 8 (λ i. b i / 16 + 6) (λ i. b i % 16 + 6) hu hv)
      ∙ mask-each 8 8 16 (λ i. bit_or (b i / 16 + 6) (b i % 16 + 6)) (λ i. or_lt 8 (b i / 16 + 6) (b i % 16 + 6) (hu i) (hv i)) (omega arith)
    where
      hu : (i : ℕ) → b i / 16 + 6 < 256
      hu i = omega (arith, h i)

      hv : (i : ℕ) → b i % 16 + 6 < 256
      hv i = omega (arith, h i)

  -- the numbers of one, two and four bytes, and that each keeps within its field
  abbrev t₁ : ℕ → ℕ
  t₁ i = two (b i)

  abbrev t₂ : ℕ → ℕ
  t₂ i = t₁ (twice i) * 100 + t₁ (suc (twice i))

  abbrev t₄ : ℕ → ℕ
  t₄ i = t₂ (twice i) * 10000 + t₂ (suc (twice i))

  t₁-lt : (i : ℕ) → t₁ i < 256
  t₁-lt i = omega (arith, h i)

  t₂-lt : (i : ℕ) → t₂ i < 65536
  t₂-lt i = lt₂ (t₁ (twice i)) (t₁ (suc (twice i))) (t₁-lt (twice i)) (t₁-lt (suc (twice i)))
    where
      lt₂ : (u v : ℕ) → u < 256 → v < 256 → u * 100 + v < 65536
      lt₂ u v hu hv = omega arith

  t₄-lt : (i : ℕ) → t₄ i < 4294967296
  t₄-lt i = lt₄ (t₂ (twice i)) (t₂ (suc (twice i))) (t₂-lt (twice i)) (t₂-lt (suc (twice i)))
    where
      lt₄ : (u v : ℕ) → u < 65536 → v < 65536 → u * 10000 + v < 4294967296
      lt₄ u v hu hv = omega arith

  fours_is : fours (word 8 8 b) ≡ word 32 2 t₄
  fours_is =
      ap (λ (z : ℕ). bit_and z (lows 16 2) * 10000 + bit_and (z / 65536) (lows 16 2))
      (ap (λ (y : ℕ). bit_and y (lows 8 4) * 100 + bit_and (y / 256) (lows 8 4))
      (ap₂ (λ (u v : ℕ). u * 10 + v) high_is low-is ∙ sum-each 8 8 10 (λ i. b i / 16) (λ i. b i % 16))
      ∙ join-each 8 4 100 t₁ t₁-lt)
      ∙ join-each 16 2 10000 t₂ t₂-lt

  -- the leaf gives the digits of its eight bytes
  pub leaf : leaf_of (word 8 8 b) ≡ block_of 4 (fields 8 b)
  leaf =
      ap (λ (g : Bool). made g (fours (word 8 8 b) % 4294967296) (fours (word 8 8 b) / 4294967296))
      (ap (λ (x : ℕ). eqb x 0) bads-is ∙ flags 8 b h)
      ∙ ap₂ (made (good (fields 8 b)))
      (ap (λ (x : ℕ). x % 4294967296) fours_is ∙ low (0 * 4294967296 + t₄ 1) 32 (t₄-lt 0) ∙ quad (t₁ 0) (t₁ 1) (t₁ 2) (t₁ 3))
      (ap (λ (x : ℕ). x / 4294967296) fours_is ∙ high (0 * 4294967296 + t₄ 1) 32 (t₄-lt 0) ∙ zero-add (t₄ 1) ∙ quad (t₁ 4) (t₁ 5) (t₁ 6) (t₁ 7))
