-- Two times of three bytes each, worked out as two bytes and four; and a time of day by its bytes.
use Prim.Native.Nat.{ℕ, ◌+◌, ◌*◌, ◌/◌, ◌%◌, ◌^◌, ◌≤◌, ◌<◌}
use mathlib.Core.Path.{◌≡◌, refl, sym, ap, ap₂, ◌∙◌}
use mathlib.Core.Bool.{Bool, true, false, ◌&&◌}
use mathlib.Core.List.{List, [], ◌∷◌}
use native.Mathlib.Omega.{arith}
use lib.ListN.{length, get_or, take, drop, length-drop}
use lib.Dec.{eqb, ltb}
use borrow.Author.Tests.{eq-eqb, ne_eqb, ltb-true, ltb-false, lt-ltb, le-ltb}
use lib.Seq.{take_all, take-add, take-take, drop-drop, length-take-le}
use Rattle.digits.specs.Packed.{good_byte, good, two, value}
use Rattle.words.specs.Blocks.{block_at, block_of, no_block}
use Rattle.words.specs.declared.blocks.Block.{Block}
use Rattle.digits.proofs.Bools.{and_left, and_right, both_true}
use Rattle.digits.proofs.Places.{inside, take-first}
use Rattle.digits.proofs.PackedLaws.{good-halves, two-lt, value-lt, value-parts, value_from-append, value_from-shift}
use Rattle.digits.proofs.Values.{good-split}
use Rattle.codes_times.specs.Times.{time_of_day}
use Rattle.frame.proofs.HeaderLaws.{part-taken}

-- good digits of n bytes
below : (n : ℕ) (bs : List ℕ) → length bs ≡ n → good bs ≡ true → value bs < 100 ^ n
below n bs l g = rw l at (value-lt bs g)

module _ (bs : List ℕ) (l : length bs ≡ 6) where
  abbrev third : List ℕ
  third = take 1 (drop 2 bs)

  third-long : length third ≡ 1
  third-long = length-take-le 1 (drop 2 bs) (rw length-drop (omega arith))

  last-long : length (drop 3 bs) ≡ 3
  last-long = rw length-drop (omega arith)

  first_three : value (take 3 bs) ≡ value (take 2 bs) * 100 + value third
  first_three =
      ap value (take-add 2 1 bs) ∙ value_from-append 0 (take 2 bs) third ∙ value_from-shift (value (take 2 bs)) third
      ∙ ap (λ (k : ℕ). value (take 2 bs) * 100 ^ k + value third) third-long

  last-four : value (drop 2 bs) ≡ value third * 1000000 + value (drop 3 bs)
  last-four =
      value-parts 1 (drop 2 bs) ∙ ap (λ (k : List ℕ). value third * 100 ^ length k + value k) (drop-drop 1 2 bs)
      ∙ ap (λ (k : ℕ). value third * 100 ^ k + value (drop 3 bs)) last-long

  module _ (g : good bs ≡ true) where
    last-lt : value (drop 3 bs) < 1000000
    last-lt = below 3 (drop 3 bs) last-long (and_right (good (take 3 bs)) _ (good-split 3 bs ∙ g))

    front-value : value (take 3 bs) ≡ value (take 2 bs) * 100 + value (drop 2 bs) / 1000000
    front-value = omega (arith, first_three, last-four, last-lt)

    back-value : value (drop 3 bs) ≡ value (drop 2 bs) % 1000000
    back-value = omega (arith, last-four, last-lt)

    front-lt : value (take 2 bs) < 10000
    front-lt = below 2 (take 2 bs) (length-take-le 2 bs (omega arith)) (and_left _ _ (good-split 2 bs ∙ g))

    back-lt : value (drop 2 bs) < 100000000
    back-lt = below 4 (drop 2 bs) (rw length-drop (omega arith)) (and_right (good (take 2 bs)) _ (good-split 2 bs ∙ g))

-- the six bytes at a place
module _ (s : List ℕ) (at : ℕ) (h : at + 6 ≤ length s) (t : Block) (e : t ≡ block_at 6 2 s at) where
  abbrev six : List ℕ
  six = take 6 (drop at s)

  six-long : length six ≡ 6
  six-long = length-take-le 6 (drop at s) (rw length-drop (omega arith))

  six-told : t ≡ block_of 2 six
  six-told = e ∙ inside 6 at s (block_of 2 six) no_block h

  front : take 3 six ≡ take 3 (drop at s)
  front = take-take 3 6 (drop at s) (omega arith)

  back : drop 3 six ≡ take 3 (drop (at + 3) s)
  back =
      sym (take_all 3 (drop 3 six) (omega (arith, last-long six six-long))) ∙ part-taken 3 3 6 (drop at s) (omega arith)
      ∙ ap (take 3) (drop-drop 3 at s)

  pub times-good : t.good ≡ (good (take 3 (drop at s)) && good (take 3 (drop (at + 3) s)))
  times-good = ap (λ (x : Block). x.good) six-told ∙ sym (good-split 3 six) ∙ ap₂ (λ (x y : List ℕ). good x && good y) front back

  module _ (g : t.good ≡ true) where
    six-good : good six ≡ true
    six-good = rw six-told at g

    both-good : (good (take 3 (drop at s)) ≡ true) × (good (take 3 (drop (at + 3) s)) ≡ true)
    both-good = both_true (good (take 3 (drop at s))) _ (sym times-good ∙ g)

    pub first_good : good (take 3 (drop at s)) ≡ true
    first_good = both-good.0

    pub second-good : good (take 3 (drop (at + 3) s)) ≡ true
    second-good = both-good.1

    pub first_small : t.first < 10000
    first_small = rw six-told (front-lt six six-long six-good)

    pub last-small : t.last < 100000000
    last-small = rw six-told (back-lt six six-long six-good)

    pub first-time : value (take 3 (drop at s)) ≡ t.first * 100 + t.last / 1000000
    first-time = rw six-told (ap value (sym front) ∙ front-value six six-long six-good)

    pub second-time : value (take 3 (drop (at + 3) s)) ≡ t.last % 1000000
    second-time = rw six-told (ap value (sym back) ∙ back-value six six-long six-good)

-- ---- a time of day by its bytes
-- a byte of good digits is at most that of 99
byte_small : (b : ℕ) → good_byte b ≡ true → b ≤ 153
byte_small b g = omega (arith, (good-halves b g).0, (good-halves b g).1)

-- good digits are below two digits where their byte is below those as a byte
byte-below : (b n m : ℕ) → good_byte b ≡ true → m ≤ 9 → ltb (two b) (n * 10 + m) ≡ ltb b (n * 16 + m)
byte-below b n m g h = go (ltb b (n * 16 + m)) refl
  where
    go : (t : Bool) → ltb b (n * 16 + m) ≡ t → ltb (two b) (n * 10 + m) ≡ t
    go true e = lt-ltb (two b) (n * 10 + m) (omega (arith, ltb-true b (n * 16 + m) e, (good-halves b g).1))
    go false e = le-ltb (two b) (n * 10 + m) (omega (arith, ltb-false b (n * 16 + m) e, (good-halves b g).1))

-- hours, minutes and seconds of a number
day-parts : (x y z : ℕ) → y < 100 → z < 100 → time_of_day 0 (((0 * 100 + x) * 100 + y) * 100 + z) ≡ (ltb x 24 && (ltb y 60 && ltb z 60))
day-parts x y z h k =
    let v : ℕ = ((0 * 100 + x) * 100 + y) * 100 + z in
    let e : v / 10000 ≡ x = omega arith in
    let f : v / 100 % 100 ≡ y = omega arith in
    let g : v / 1 % 100 ≡ z = omega arith in
    ap₂ (λ (i j : ℕ). ltb i 24 && (ltb j 60 && ltb (v / 1 % 100) 60)) e f ∙ ap (λ (i : ℕ). ltb x 24 && (ltb y 60 && ltb i 60)) g

-- and of three bytes
three-below : (a b c : ℕ) → good (a ∷ b ∷ c ∷ []) ≡ true → time_of_day 0 (value (a ∷ b ∷ c ∷ [])) ≡ (ltb a 36 && (ltb b 96 && ltb c 96))
three-below a b c g =
    let i = both_true (good_byte a) (good (b ∷ c ∷ [])) g in
    let j = both_true (good_byte b) (good (c ∷ [])) i.1 in
    let k : good_byte c ≡ true = and_left (good_byte c) true j.1 in
    day-parts (two a) (two b) (two c) (two-lt b j.0) (two-lt c k)
    ∙ ap₂ ◌&&◌ (byte-below a 2 4 i.0 (omega arith)) (ap₂ ◌&&◌ (byte-below b 6 0 j.0 (omega arith)) (byte-below c 6 0 k (omega arith)))

module _ (s : List ℕ) (at : ℕ) (h : at + 3 ≤ length s) where
  three : take 3 (drop at s) ≡ get_or s at 0 ∷ get_or s (at + 1) 0 ∷ get_or s (at + 2) 0 ∷ []
  three =
      let e : at + 1 + 1 ≡ at + 2 = omega arith in
      take-first 2 at s (omega arith)
      ∙ ap (λ (k : List ℕ). get_or s at 0 ∷ k) (take-first 1 (at + 1) s (omega arith))
      ∙ ap (λ (k : List ℕ). get_or s at 0 ∷ get_or s (at + 1) 0 ∷ k) (take-first 0 (at + 1 + 1) s (omega arith) ∙ ap (λ (i : ℕ). get_or s i 0 ∷ []) e)

  pub bytes_small : good (take 3 (drop at s)) ≡ true → (get_or s at 0 ≤ 153) × (get_or s (at + 1) 0 ≤ 153) × (get_or s (at + 2) 0 ≤ 153)
  bytes_small g =
      let i = both_true (good_byte (get_or s at 0)) _ (ap good (sym three) ∙ g) in
      let j = both_true (good_byte (get_or s (at + 1) 0)) _ i.1 in
      (byte_small (get_or s at 0) i.0, byte_small (get_or s (at + 1) 0) j.0, byte_small (get_or s (at + 2) 0) (and_left (good_byte (get_or s (at + 2) 0)) true j.1))

  pub day-bytes : good (take 3 (drop at s)) ≡ true
      → time_of_day 0 (value (take 3 (drop at s))) ≡ (ltb (get_or s at 0) 36 && (ltb (get_or s (at + 1) 0) 96 && ltb (get_or s (at + 2) 0) 96))
  day-bytes g = ap (λ (k : List ℕ). time_of_day 0 (value k)) three ∙ three-below (get_or s at 0) (get_or s (at + 1) 0) (get_or s (at + 2) 0) (ap good (sym three) ∙ g)

-- ---- three bytes side by side, with what is added to give one that is too large its upper bit
module _ (a b c : ℕ) (ha : a ≤ 153) (hb : b ≤ 153) (hc : c ≤ 153) where
  abbrev beside : ℕ
  beside = a + b * 256 + c * 65536 + 2105436

  pub hour-late : (beside / 128 % 2 ≡ 0 → ⊥) → 36 ≤ a
  hour-late n = omega arith

  pub hour-right : beside / 128 % 2 ≡ 0 → a < 36
  hour-right e = omega arith

  pub minute-late : (beside / 32768 % 2 ≡ 0 → ⊥) → 96 ≤ b
  minute-late n = omega arith

  pub minute-right : beside / 32768 % 2 ≡ 0 → b < 96
  minute-right e = omega arith

  pub second-told : eqb (beside / 8388608 % 2) 0 ≡ ltb c 96
  second-told = go (ltb c 96) refl
    where
      go : (t : Bool) → ltb c 96 ≡ t → eqb (beside / 8388608 % 2) 0 ≡ t
      go true e = eq-eqb (beside / 8388608 % 2) 0 (omega (arith, ltb-true c 96 e))
      go false e = ne_eqb (beside / 8388608 % 2) 0 (λ z. omega (arith, ltb-false c 96 e))
