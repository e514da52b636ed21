-- The block of a payload is sound and has the payload; and a sound block is the block of its payload.
use Prim.Native.Nat.{ℕ, zero, suc, ◌+◌, ◌-◌, ◌/◌, ◌%◌, ◌<◌, ◌≤◌}
use mathlib.Core.Path.{◌≡◌, refl, sym, ap, ap₂, ◌∙◌}
use mathlib.Core.Bool.{Bool, true, false, ◌&&◌, ◌||◌}
use mathlib.Core.List.{List, [], ◌∷◌, ◌++◌, append_assoc}
use native.Mathlib.Omega.{arith}
use borrow.Author.Tests.{eq-eqb, ne_eqb, le-leb, le-ltb, eqb-true, eqb-false, ltb-false, leb-true}
use lib.ListN.{length, get_or, take, drop, replicate, length-append, length-take, length-drop, take-append-drop, drop_of_length-le}
use lib.Seq.{take_at, drop_at, get_or_at, get_or-append-add, drop-append-add, take-take}
use lib.Dec.{eqb, leb, ltb}
use Rattle.list_laws.proofs.Turns.{at_drop}
use Rattle.fletcher.specs.Fletcher.{fletcher}
use Rattle.capture.specs.Blocks.{most, number, used, payload, in_range, all_zero, zeros_behind, check_fits, intact, checked_of, block_of}
use Rattle.capture.specs.Searches.{sound}
use Rattle.capture_append.specs.Appending.{misfit}
use Rattle.capture_append.proofs.BuildLaws.{length-checked}

-- a payload that fits has 1 to 504 bytes
pub fits-from : (x : List ℕ) → misfit x ≡ false → (1 ≤ length x) × (length x ≤ 504)
fits-from x h = go (eqb (length x) 0) refl h
  where
    go : (t : Bool) → eqb (length x) 0 ≡ t → (t || ltb most (length x)) ≡ false → (1 ≤ length x) × (length x ≤ 504)
    go true e h = let y : ◌≡◌ {A = ℕ} 0 1 = cc in absurd (omega (arith, y))
    go false e h = (omega (arith, eqb-false (length x) 0 e), omega (arith, ltb-false most (length x) h))

pub all-zeros : (n : ℕ) → all_zero (replicate n 0) ≡ true
all-zeros zero = refl
all-zeros (suc n) = all-zeros n

module _ (p : ℕ) (x : List ℕ) (low : p ≤ 128) (fits : length x ≤ 504) where
  abbrev c : List ℕ
  c = checked_of p x

  abbrev ends : List ℕ
  ends = (fletcher c).first ∷ (fletcher c).second ∷ []

  pub take-block : take 510 (block_of p x) ≡ c
  unfolding block_of
  take-block = take_at c ends 510 (length-checked p x low fits)

  pub length-block : length (block_of p x) ≡ 512
  unfolding block_of
  length-block = rw (length-append, length-checked p x low fits) refl

  -- its bytes
  pub byte-0 : get_or (block_of p x) 0 0 ≡ 0
  unfolding block_of checked_of
  byte-0 = omega arith

  pub byte-1 : get_or (block_of p x) 1 0 ≡ 0
  unfolding block_of checked_of
  byte-1 = omega arith

  pub byte-2 : get_or (block_of p x) 2 0 ≡ 0
  unfolding block_of checked_of
  byte-2 = omega arith

  pub byte-3 : get_or (block_of p x) 3 0 ≡ p
  unfolding block_of checked_of
  byte-3 = omega arith

  pub number-block : number (block_of p x) ≡ p
  unfolding number
  number-block = rw (byte-0, byte-1, byte-2, byte-3) (omega arith)

  pub used-block : used (block_of p x) ≡ length x
  unfolding used block_of checked_of
  used-block = omega arith

  abbrev zeros : List ℕ
  zeros = replicate (504 - length x) 0

  pub payload-block : payload (block_of p x) ≡ x
  unfolding payload block_of checked_of
  payload-block =
      ap (λ (n : ℕ). take n ((x ++ zeros) ++ ends)) used-block ∙ ap (take (length x)) (append_assoc x zeros ends) ∙ take_at x (zeros ++ ends) (length x) refl

  -- range, zeros and check hold
  zeros-block : zeros_behind (block_of p x) ≡ true
  unfolding zeros_behind checked_of
  zeros-block =
      let behind : drop (6 + length x) c ≡ zeros =
      drop-append-add (p / 16777216 ∷ p / 65536 % 256 ∷ p / 256 % 256 ∷ p % 256 ∷ length x / 256 ∷ length x % 256 ∷ []) (x ++ zeros) (length x)
      ∙ drop_at x zeros (length x) refl in
      rw (take-block, used-block, behind) (all-zeros (504 - length x))

  first_block : get_or (block_of p x) 510 0 ≡ (fletcher c).first
  unfolding block_of
  first_block = get_or_at c (fletcher c).first ((fletcher c).second ∷ []) 0 510 (length-checked p x low fits)

  second_block : get_or (block_of p x) 511 0 ≡ (fletcher c).second
  unfolding block_of
  second_block =
      let e : length c + 1 ≡ 511 = omega (arith, length-checked p x low fits) in
      ap (λ (n : ℕ). get_or (c ++ ends) n 0) (sym e) ∙ get_or-append-add c ends 1 0

  check-block : check_fits (block_of p x) ≡ true
  unfolding check_fits
  check-block =
      rw (take-block, eq-eqb (get_or (block_of p x) 510 0) (fletcher c).first first_block, eq-eqb (get_or (block_of p x) 511 0) (fletcher c).second second_block) refl

  pub sound-block : 1 ≤ length x → sound (block_of p x) p ≡ true
  unfolding sound intact in_range
  sound-block some =
      rw (eq-eqb (number (block_of p x)) p number-block, used-block, le-leb 1 (length x) some, le-leb (length x) 504 fits, zeros-block, check-block) refl

-- a list of zeros is as many zeros
zeros-are : (l : List ℕ) → all_zero l ≡ true → l ≡ replicate (length l) 0
zeros-are [] h = refl
zeros-are (b ∷ l) h = go (eqb b 0) refl h (zeros-are l)
  where
    go : (t : Bool) → eqb b 0 ≡ t → (t && all_zero l) ≡ true → (all_zero l ≡ true → l ≡ replicate (length l) 0) → b ∷ l ≡ replicate (suc (length l)) 0
    go true e h ih = ap₂ ◌∷◌ (eqb-true b 0 e) (ih h)
    go false e h ih = let y : ◌≡◌ {A = ℕ} 0 1 = cc in absurd (omega (arith, y))

pub both : (s t : Bool) → (s && t) ≡ true → (s ≡ true) × (t ≡ true)
both true t h = (refl, h)
both false t h = let y : ◌≡◌ {A = ℕ} 0 1 = cc in absurd (omega (arith, y))

-- six bytes and the rest
six : (l : List ℕ) → 6 ≤ length l → l ≡ get_or l 0 0 ∷ get_or l 1 0 ∷ get_or l 2 0 ∷ get_or l 3 0 ∷ get_or l 4 0 ∷ get_or l 5 0 ∷ drop 6 l
six (a ∷ b ∷ c ∷ d ∷ e ∷ f ∷ l) h = refl
six [] h = absurd (omega (arith, h))
six (a ∷ []) h = absurd (omega (arith, h))
six (a ∷ b ∷ []) h = absurd (omega (arith, h))
six (a ∷ b ∷ c ∷ []) h = absurd (omega (arith, h))
six (a ∷ b ∷ c ∷ d ∷ []) h = absurd (omega (arith, h))
six (a ∷ b ∷ c ∷ d ∷ e ∷ []) h = absurd (omega (arith, h))

-- a sound block's parts, put together again
module _ (b : List ℕ) (p : ℕ) (long : length b ≡ 512) (low : p ≤ 128) (byte : get_or b 5 0 < 256) (is : sound b p ≡ true) where
  numbered : (number b ≡ p) × (intact b ≡ true)
  unfolding sound
  numbered = let h = both (eqb (number b) p) (intact b) is in (eqb-true (number b) p h.0, h.1)

  ranged : (1 ≤ used b) × (used b ≤ 504) × ((zeros_behind b && check_fits b) ≡ true)
  unfolding intact in_range
  ranged =
      let h = both (in_range b) (zeros_behind b && check_fits b) numbered.1 in
      let k = both (leb 1 (used b)) (leb (used b) most) h.0 in
      (leb-true 1 (used b) k.0, leb-true (used b) most k.1, h.1)

  zeroed : (zeros_behind b ≡ true) × (check_fits b ≡ true)
  zeroed = both (zeros_behind b) (check_fits b) ranged.2

  checked : (get_or b 510 0 ≡ (fletcher (take 510 b)).first) × (get_or b 511 0 ≡ (fletcher (take 510 b)).second)
  unfolding check_fits
  checked =
      let h = both (eqb (get_or b 510 0) (fletcher (take 510 b)).first) (eqb (get_or b 511 0) (fletcher (take 510 b)).second) zeroed.1 in
      (eqb-true (get_or b 510 0) (fletcher (take 510 b)).first h.0, eqb-true (get_or b 511 0) (fletcher (take 510 b)).second h.1)

  abbrev n : ℕ
  n = used b

  abbrev room : List ℕ
  room = take 504 (drop 6 b)

  abbrev top : List ℕ
  top = get_or b 0 0 ∷ get_or b 1 0 ∷ get_or b 2 0 ∷ get_or b 3 0 ∷ get_or b 4 0 ∷ get_or b 5 0 ∷ []

  first-510 : take 510 b ≡ top ++ room
  first-510 = ap (take 510) (six b (omega (arith, long)))

  pub length-payload : length (payload b) ≡ n
  unfolding payload
  length-payload = rw (length-take, length-drop) (omega (arith, long, ranged.1))

  pub payload-fits : misfit (payload b) ≡ false
  payload-fits =
      rw (ne_eqb (length (payload b)) 0 (λ z. omega (arith, z, length-payload, ranged.0)), le-ltb 504 (length (payload b)) (omega (arith, length-payload, ranged.1))) refl

  room-payload : room ≡ payload b ++ replicate (504 - length (payload b)) 0
  unfolding payload zeros_behind
  room-payload =
      let rest : drop (6 + n) (take 510 b) ≡ drop n room = ap (drop (6 + n)) first-510 ∙ drop-append-add top room n in
      let l : length (drop n room) ≡ 504 - n = rw (length-drop, length-take, length-drop) (omega (arith, long)) in
      let z : drop n room ≡ replicate (504 - n) 0 = zeros-are (drop n room) (ap all_zero (sym rest) ∙ zeroed.0) ∙ ap (λ (k : ℕ). replicate k 0) l in
      sym (take-append-drop n room)
      ∙ ap₂ ◌++◌ (take-take n 504 (drop 6 b) ranged.1) (z ∙ ap (λ (k : ℕ). replicate (504 - k) 0) (sym length-payload))

  checked-is : take 510 b ≡ checked_of p (payload b)
  unfolding checked_of number used
  checked-is =
      let e = numbered.0 in
      let k = length-payload in
      let a : get_or b 0 0 ≡ p / 16777216 = omega (arith, e, low) in
      let c : get_or b 1 0 ≡ p / 65536 % 256 = omega (arith, e, low) in
      let d : get_or b 2 0 ≡ p / 256 % 256 = omega (arith, e, low) in
      let f : get_or b 3 0 ≡ p % 256 = omega (arith, e, low) in
      let g : get_or b 4 0 ≡ length (payload b) / 256 = omega (arith, k, byte) in
      let h : get_or b 5 0 ≡ length (payload b) % 256 = omega (arith, k, byte) in
      first-510 ∙ rw (a, c, d, f, g, h, room-payload) refl

  pub sound-is : b ≡ block_of p (payload b)
  unfolding block_of
  sound-is =
      let e : drop 510 b ≡ get_or b 510 0 ∷ get_or b 511 0 ∷ [] =
      at_drop b 510 (omega (arith, long)) ∙ ap (λ (l : List ℕ). get_or b 510 0 ∷ l)
      (at_drop b 511 (omega (arith, long)) ∙ ap (λ (l : List ℕ). get_or b 511 0 ∷ l) (drop_of_length-le b {i = 512} (omega (arith, long)))) in
      sym (take-append-drop 510 b) ∙ ap₂ ◌++◌ checked-is e
      ∙ ap₂ (λ (f s : ℕ). checked_of p (payload b) ++ (f ∷ s ∷ [])) (checked.0 ∙ ap (λ (l : List ℕ). (fletcher l).first) checked-is)
      (checked.1 ∙ ap (λ (l : List ℕ). (fletcher l).second) checked-is)
