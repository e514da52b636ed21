-- Numbers as n fields of k bits side by side, the lowest first, and what an operation on the whole does to each field.
use Prim.Native.Nat.{ℕ, zero, suc, ◌+◌, ◌-◌, ◌*◌, ◌/◌, ◌%◌, ◌^◌, ◌<◌}
use mathlib.Core.Path.{◌≡◌, refl, sym, ap, ap₂, ◌∙◌}
use native.Mathlib.Nat.{add-mul, mul_assoc, mul_right_comm, zero-mul, le-add_right, lt_of_lt_of_le}
use native.Mathlib.Omega.{arith}
use lib.Arith.{digits_lt}
use lib.Pow.{pow-add, pow_pos, pow_mono, pow-sub-lt, shl-shr, shr_mod, ones_lt, high, low, high_ones}
use lib.Bits.{bit_and, bit_or, and_block, or_block, and_mask, and_high, and_shr}

-- n fields of k bits, field i being f i
abbrev pub word : ℕ → ℕ → (ℕ → ℕ) → ℕ
word k zero f = 0
word k (suc n) f = word k n (λ i. f (suc i)) * 2 ^ k + f 0

-- equal fields, equal words
pub word_same : (k n : ℕ) {f g : ℕ → ℕ} → ((i : ℕ) → f i ≡ g i) → word k n f ≡ word k n g
word_same k zero h = refl
word_same k (suc n) h = ap₂ (λ (x y : ℕ). x * 2 ^ k + y) (word_same k n (λ i. h (suc i))) (h 0)

-- what works on the k low bits and on the rest apart works on each field
module _ (k : ℕ) (op : ℕ → ℕ → ℕ) (none : op 0 0 ≡ 0)
    (block : (a b r s : ℕ) → r < 2 ^ k → s < 2 ^ k → op (a * 2 ^ k + r) (b * 2 ^ k + s) ≡ op a b * 2 ^ k + op r s) where
  pub each : (n : ℕ) (f g : ℕ → ℕ) → ((i : ℕ) → f i < 2 ^ k) → ((i : ℕ) → g i < 2 ^ k)
      → op (word k n f) (word k n g) ≡ word k n (λ i. op (f i) (g i))
  each zero f g hf hg = none
  each (suc n) f g hf hg =
      block (word k n (λ i. f (suc i))) (word k n (λ i. g (suc i))) (f 0) (g 0) (hf 0) (hg 0)
      ∙ ap (λ (x : ℕ). x * 2 ^ k + op (f 0) (g 0)) (each n (λ i. f (suc i)) (λ i. g (suc i)) (λ i. hf (suc i)) (λ i. hg (suc i)))

-- the sum of two words
pub add-each : (k n : ℕ) (f g : ℕ → ℕ) → word k n f + word k n g ≡ word k n (λ i. f i + g i)
add-each k zero f g = refl
add-each k (suc n) f g =
    regroup (word k n (λ i. f (suc i))) (word k n (λ i. g (suc i))) (2 ^ k)
    ∙ ap (λ (x : ℕ). x * 2 ^ k + (f 0 + g 0)) (add-each k n (λ i. f (suc i)) (λ i. g (suc i)))
  where
    regroup : (w v c : ℕ) → (w * c + f 0) + (v * c + g 0) ≡ (w + v) * c + (f 0 + g 0)
    regroup w v c = omega (arith, add-mul w v c)

-- every field times one number
pub scale-each : (k n p : ℕ) (f : ℕ → ℕ) → word k n f * p ≡ word k n (λ i. f i * p)
scale-each k zero p f = zero-mul p
scale-each k (suc n) p f =
    add-mul (word k n (λ i. f (suc i)) * 2 ^ k) (f 0) p
    ∙ ap (λ (x : ℕ). x + f 0 * p) (mul_right_comm (word k n (λ i. f (suc i))) (2 ^ k) p
    ∙ ap (λ (x : ℕ). x * 2 ^ k) (scale-each k n p (λ i. f (suc i))))

-- a multiple of one word added to another
pub sum-each : (k n p : ℕ) (f g : ℕ → ℕ) → word k n f * p + word k n g ≡ word k n (λ i. f i * p + g i)
sum-each k n p f g = ap (λ (x : ℕ). x + word k n g) (scale-each k n p f) ∙ add-each k n (λ i. f i * p) g

-- one mask on each field
pub mask-each : (k n m : ℕ) (f : ℕ → ℕ) → ((i : ℕ) → f i < 2 ^ k) → m < 2 ^ k
    → bit_and (word k n f) (word k n (λ _. m)) ≡ word k n (λ i. bit_and (f i) m)
mask-each k n m f h hm = each k bit_and refl (and_block k) n f (λ _. m) h (λ _. hm)

-- two words by `or`
pub or-each : (k n : ℕ) (f g : ℕ → ℕ) → ((i : ℕ) → f i < 2 ^ k) → ((i : ℕ) → g i < 2 ^ k)
    → bit_or (word k n f) (word k n g) ≡ word k n (λ i. bit_or (f i) (g i))
or-each k n = each k bit_or refl (or_block k) n

-- the low k bits set in each of n fields of twice k
abbrev pub lows : ℕ → ℕ → ℕ
lows k n = word (k + k) n (λ _. 2 ^ k - 1)

-- of fields of twice k bits, each one's low half, and each one's high half
module _ (k n : ℕ) (f : ℕ → ℕ) (h : (i : ℕ) → f i < 2 ^ (k + k)) where
  pub low-each : bit_and (word (k + k) n f) (lows k n) ≡ word (k + k) n (λ i. f i % 2 ^ k)
  low-each =
      mask-each (k + k) n (2 ^ k - 1) f h (lt_of_lt_of_le (ones_lt k) (pow_mono (le-add_right k k)))
      ∙ word_same (k + k) n (λ i. and_mask (f i) k)

  pub high-each : bit_and (word (k + k) n f / 2 ^ k) (lows k n) ≡ word (k + k) n (λ i. f i / 2 ^ k)
  high-each =
      ap (λ (m : ℕ). bit_and (word (k + k) n f / 2 ^ k) m) (sym (shl-shr (lows k n) k))
      ∙ sym (and_shr (word (k + k) n f) (lows k n * 2 ^ k) k)
      ∙ ap (λ (m : ℕ). bit_and (word (k + k) n f) m / 2 ^ k)
      (scale-each (k + k) n (2 ^ k) (λ _. 2 ^ k - 1) ∙ word_same (k + k) n (λ _. sym (high_ones k k)))
      ∙ ap (λ (x : ℕ). x / 2 ^ k)
      (mask-each (k + k) n (2 ^ (k + k) - 2 ^ k) f h (pow-sub-lt (k + k) (pow_pos k))
      ∙ word_same (k + k) n (λ i. and_high (f i) k k ∙ ap (λ (x : ℕ). x * 2 ^ k) (shr_mod k k (h i)))
      ∙ sym (scale-each (k + k) n (2 ^ k) (λ i. f i / 2 ^ k)))
      ∙ shl-shr (word (k + k) n (λ i. f i / 2 ^ k)) k

-- twice a number, so that fields go by twos
abbrev pub twice : ℕ → ℕ
twice zero = zero
twice (suc n) = suc (suc (twice n))

-- fields taken by twos: the second of two is the high half
pub by-twos : (k n : ℕ) (f : ℕ → ℕ) → word k (twice n) f ≡ word (k + k) n (λ i. f (suc (twice i)) * 2 ^ k + f (twice i))
by-twos k zero f = refl
by-twos k (suc n) f =
    ap (λ (x : ℕ). (x * 2 ^ k + f 1) * 2 ^ k + f 0) (by-twos k n (λ i. f (suc (suc i))))
    ∙ regroup (word (k + k) n (λ i. f (suc (twice (suc i))) * 2 ^ k + f (twice (suc i))))
  where
    regroup : (w : ℕ) → (w * 2 ^ k + f 1) * 2 ^ k + f 0 ≡ w * 2 ^ (k + k) + (f 1 * 2 ^ k + f 0)
    regroup w = rw (pow-add 2 k k) (omega (arith, add-mul (w * 2 ^ k) (f 1) (2 ^ k), mul_assoc w (2 ^ k) (2 ^ k)))

-- each two fields become one: p times the first and the second
pub join-each : (k n p : ℕ) (f : ℕ → ℕ) → ((i : ℕ) → f i < 2 ^ k)
    → bit_and (word k (twice n) f) (lows k n) * p + bit_and (word k (twice n) f / 2 ^ k) (lows k n)
    ≡ word (k + k) n (λ i. f (twice i) * p + f (suc (twice i)))
join-each k n p f h =
    ap (λ (x : ℕ). bit_and x (lows k n) * p + bit_and (x / 2 ^ k) (lows k n)) (by-twos k n f)
    ∙ ap₂ (λ (x y : ℕ). x * p + y) (low-each k n g hg) (high-each k n g hg)
    ∙ ap₂ (λ (x y : ℕ). x * p + y) (word_same (k + k) n (λ i. low (f (suc (twice i))) k (h (twice i))))
    (word_same (k + k) n (λ i. high (f (suc (twice i))) k (h (twice i))))
    ∙ sum-each (k + k) n p (λ i. f (twice i)) (λ i. f (suc (twice i)))
  where
    g : ℕ → ℕ
    g i = f (suc (twice i)) * 2 ^ k + f (twice i)

    hg : (i : ℕ) → g i < 2 ^ (k + k)
    hg i = rw (pow-add 2 k k) (digits_lt (h (suc (twice i))) (h (twice i)))
