-- Sums over bytes: in parts, within 0 to 254, and reduced late.
use Prim.Native.Nat.{ℕ, zero, suc, ◌+◌, ◌-◌, ◌*◌, ◌%◌, ◌<◌, ◌≤◌, min}
use mathlib.Core.Path.{◌≡◌, refl, sym, ap, ap₂, ◌∙◌}
use mathlib.Core.Bool.{Bool, true, false}
use mathlib.Core.List.{List, [], ◌∷◌, ◌++◌}
use native.Mathlib.Omega.{arith}
use native.Mathlib.Nat.{mul-add, add-mul, one-mul}
use borrow.Author.Tests.{leb-true, leb-false}
use lib.ListN.{take, drop, length, replicate, length-drop, length-replicate, drop_of_length-le}
use lib.Seq.{take_all}
use lib.Dec.{leb}
use Rattle.fletcher.specs.Fletcher.{sums_of, with_byte, with_bytes, fletcher, between}
use Rattle.fletcher.specs.declared.Sums.{Sums}

-- bytes after others go on from the others' sums
pub with_bytes-append : (s : Sums) (xs ys : List ℕ) → with_bytes s (xs ++ ys) ≡ with_bytes (with_bytes s xs) ys
with_bytes-append s [] ys = refl
with_bytes-append s (x ∷ xs) ys = with_bytes-append (with_byte s x) xs ys

-- both sums are below 255
abbrev pub Small : Sums → Type 0
Small s = (s.first < 255) × (s.second < 255)

pub with_byte-small : (s : Sums) (b : ℕ) → Small (with_byte s b)
with_byte-small s b = (omega arith, omega arith)

pub with_bytes-small : (s : Sums) (bs : List ℕ) → Small s → Small (with_bytes s bs)
with_bytes-small s [] h = h
with_bytes-small s (b ∷ bs) h = with_bytes-small (with_byte s b) bs (with_byte-small s b)

-- small sums stay as they are where they are reduced
pub small-reduced : (s : Sums) → Small s → sums_of (s.first % 255) (s.second % 255) ≡ s
small-reduced s h = ap₂ sums_of (omega (arith, h.0)) (omega (arith, h.1))

-- a byte more of sums that have grown, reduced before or after
pub reduced-byte : (a b x : ℕ) → with_byte (sums_of (a % 255) (b % 255)) x ≡ sums_of ((a + x) % 255) ((b + (a + x)) % 255)
reduced-byte a b x = ap₂ sums_of (omega arith) (omega arith)

-- what is not there is left out
pub between-there : (bs : List ℕ) (from to : ℕ) → between from (min to (length bs)) bs ≡ between from to bs
between-there bs from to = go (leb to (length bs)) refl
  where
    go : (t : Bool) → leb to (length bs) ≡ t → between from (min to (length bs)) bs ≡ between from to bs
    go true e = let same : min to (length bs) ≡ to = omega (arith, leb-true to (length bs) e) in ap (λ (n : ℕ). between from n bs) same
    go false e =
        let over = leb-false to (length bs) e in
        let l : length (drop from bs) ≡ length bs - from = length-drop from bs in
        take_all (min to (length bs) - from) (drop from bs) (omega (arith, l, over)) ∙ sym (take_all (to - from) (drop from bs) (omega (arith, l, over)))

-- One turn, where so many bytes are left and k behind it: the second sum is ahead by the first one for each byte that is left.
module _ (a b x w left k : ℕ) (one : left ≡ k + 1) (ahead : left * a ≤ b) (brings : w ≡ left * x) where
  times : (y : ℕ) → left * y ≡ k * y + y
  times y = ap (λ (j : ℕ). j * y) one ∙ add-mul k 1 y ∙ ap (λ (j : ℕ). k * y + j) (one-mul y)

  -- what is ahead after the turn
  more : k * (a + x) + (a + x) ≡ left * a + w
  more = omega (arith, mul-add k a x, times a, times x, brings)

  pub turn-ahead : k * (a + x) ≤ b + w
  turn-ahead = omega (arith, more, ahead)

  pub sum-turn : (rest : List ℕ) → with_bytes (sums_of ((a + x) % 255) ((b + w - k * (a + x)) % 255)) rest ≡ with_bytes (sums_of (a % 255) ((b - left * a) % 255)) (x ∷ rest)
  sum-turn rest =
      let e : b + w - k * (a + x) ≡ (b - left * a) + (a + x) = omega (arith, more, ahead) in
      ap (λ (y : ℕ). with_bytes (sums_of ((a + x) % 255) (y % 255)) rest) e
      ∙ ap (λ (s : Sums). with_bytes s rest) (sym (reduced-byte a (b - left * a) x))

-- at the first turn it is ahead by what was brought, and at the last by nothing
pub sum-starts : (n a b w : ℕ) → w ≡ n * a → n * a ≤ b + w
sum-starts n a b w h = omega (arith, h)

pub sum-ends : (bs : List ℕ) (i a b a₀ b₀ w : ℕ) → length bs ≤ i → w ≡ length bs * a₀
    → with_bytes (sums_of (a % 255) ((b - (length bs - i) * a) % 255)) (drop i bs)
    ≡ with_bytes (sums_of (a₀ % 255) ((b₀ + w - length bs * a₀) % 255)) bs
    → sums_of (a % 255) (b % 255) ≡ with_bytes (sums_of (a₀ % 255) (b₀ % 255)) bs
sum-ends bs i a b a₀ b₀ w h brings inv =
    let none : length bs - i ≡ 0 = omega arith in
    let end : b - (length bs - i) * a ≡ b = ap (λ (k : ℕ). b - k * a) none ∙ omega arith in
    let start : b₀ + w - length bs * a₀ ≡ b₀ = omega (arith, brings) in
    ap (λ (y : ℕ). sums_of (a % 255) (y % 255)) (sym end)
    ∙ ap (with_bytes (sums_of (a % 255) ((b - (length bs - i) * a) % 255))) (sym (drop_of_length-le bs {i = i} h))
    ∙ inv
    ∙ ap (λ (y : ℕ). with_bytes (sums_of (a₀ % 255) (y % 255)) bs) start

-- one piece more, which leaves the rest
module _ (s : Sums) (h : Small s) (piece : List ℕ) (r : Sums) (is : r ≡ with_bytes (sums_of (s.first % 255) (s.second % 255)) piece) where
  here : r ≡ with_bytes s piece
  here = is ∙ ap (λ (t : Sums). with_bytes t piece) (small-reduced s h)

  pub piece-small : Small r
  piece-small = rw here (with_bytes-small s piece h)

  pub piece-turn : (rest : List ℕ) → with_bytes r rest ≡ with_bytes s (piece ++ rest)
  piece-turn rest = ap (λ (t : Sums). with_bytes t rest) here ∙ sym (with_bytes-append s piece rest)

-- where nothing is left the sums are those of what is asked for, and where nothing is there
pub sums-all : (bs : List ℕ) (from to end : ℕ) (s : Sums) (rest : List ℕ) → end ≡ min to (length bs)
    → with_bytes s rest ≡ with_bytes (sums_of 0 0) (between from end bs) → length rest ≤ 0 → s ≡ fletcher (between from to bs)
unfolding fletcher
sums-all bs from to end s rest there inv none =
    ap (with_bytes s) (sym (drop_of_length-le rest {i = 0} none)) ∙ inv
    ∙ ap (λ (n : ℕ). with_bytes (sums_of 0 0) (between from n bs)) there ∙ ap (with_bytes (sums_of 0 0)) (between-there bs from to)

pub sums_none : (bs : List ℕ) (from to end : ℕ) → end ≡ min to (length bs) → end ≤ from → sums_of 0 0 ≡ fletcher (between from to bs)
sums_none bs from to end there none =
    let e : end - from ≡ 0 = omega arith in
    sums-all bs from to end (sums_of 0 0) [] there (ap (λ (n : ℕ). with_bytes (sums_of 0 0) (take n (drop from bs))) (sym e)) (omega arith)

-- ---- sums in parts
-- the first byte
pub first_byte : (x : ℕ) → with_byte (sums_of 0 0) x ≡ sums_of (x % 255) (x % 255)
first_byte x = ap₂ sums_of (omega arith) (omega arith)

-- bytes behind others: their own sums are added, and the first sum before them goes into the second once for each
pub sums-behind : (a b : ℕ) (xs : List ℕ)
    → with_bytes (sums_of (a % 255) (b % 255)) xs ≡ sums_of ((a + (fletcher xs).first) % 255) ((b + length xs * a + (fletcher xs).second) % 255)
unfolding fletcher
sums-behind a b [] = ap₂ sums_of (omega arith) (omega arith)
sums-behind a b (x ∷ xs) =
    let l = length xs in
    let own : with_bytes (sums_of 0 0) (x ∷ xs) ≡ sums_of ((x + (fletcher xs).first) % 255) ((x + l * x + (fletcher xs).second) % 255) =
    ap (λ (s : Sums). with_bytes s xs) (first_byte x) ∙ sums-behind x x xs in
    let e : l * (a + x) ≡ l * a + l * x = mul-add l a x in
    let more : suc l ≡ l + 1 = omega arith in
    let g : suc l * a ≡ l * a + a = ap (λ (j : ℕ). j * a) more ∙ add-mul l 1 a ∙ ap (λ (j : ℕ). l * a + j) (one-mul a) in
    ap (λ (s : Sums). with_bytes s xs) (reduced-byte a b x) ∙ sums-behind (a + x) (b + (a + x)) xs
    ∙ sym (ap₂ sums_of (ap (λ (s : Sums). (a + s.first) % 255) own ∙ omega arith) (ap (λ (s : Sums). (b + suc l * a + s.second) % 255) own ∙ omega (arith, e, g)))

-- zeros bring nothing
pub sums-zeros : (k : ℕ) → fletcher (replicate k 0) ≡ sums_of 0 0
unfolding fletcher
sums-zeros zero = refl
sums-zeros (suc k) = sums-zeros k

-- zeros behind bytes
pub zeros-behind : (xs : List ℕ) (k : ℕ) → fletcher (xs ++ replicate k 0) ≡ sums_of (fletcher xs).first (((fletcher xs).second + k * (fletcher xs).first) % 255)
unfolding fletcher
zeros-behind xs k =
    let s = fletcher xs in
    let h : Small s = with_bytes-small (sums_of 0 0) xs (omega arith, omega arith) in
    let z = sums-zeros k in
    with_bytes-append (sums_of 0 0) xs (replicate k 0) ∙ ap (λ (t : Sums). with_bytes t (replicate k 0)) (sym (small-reduced s h))
    ∙ sums-behind s.first s.second (replicate k 0)
    ∙ ap₂ sums_of (ap (λ (t : Sums). (s.first + t.first) % 255) z ∙ omega (arith, h.0))
    (ap (λ (j : ℕ). (s.second + j * s.first + (fletcher (replicate k 0)).second) % 255) (length-replicate k 0)
    ∙ ap (λ (t : Sums). (s.second + k * s.first + t.second) % 255) z ∙ omega arith)
