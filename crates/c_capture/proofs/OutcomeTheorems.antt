-- An outcome tells what it was made from: nothing of an answer is lost in its one number.
use Rattle.std.specs.Prelude.{Result, Ok, Err, ⊤}
use Prim.Native.Nat.{ℕ, ◌+◌, ◌*◌, ◌≤◌}
use mathlib.Core.Path.{◌≡◌, refl, ◌∙◌}
use mathlib.Core.Bool.{Bool, true, false, cond}
use mathlib.Core.List.{List, [], ◌∷◌}
use native.Mathlib.Omega.{arith}
use lib.Dec.{eqb}
use Rattle.capture.specs.Captures.{whole}
use Rattle.capture.specs.declared.OtherSize.{OtherSize}
use Rattle.capture.specs.declared.Unsound.{Unsound}
use Rattle.capture.specs.declared.Part.{Part}
use Rattle.capture.specs.Calls.{cleared_number, cleared_of, other_size, part_from, held_number, held_values, held_of, part_number, part_values, part_of}
use Rattle.capture_append.specs.Appending.{taken_number, taken_values, taken_of}
use Rattle.capture_append.specs.declared.AppendError.{AppendError}
use Rattle.c_capture.specs.Outcomes.{cleared_outcome, bad_outcome, taken_outcome, held_outcome, part_outcome, number_part, place_part, count_part, length_part, start_part}
use Rattle.c_capture.proofs.RangeLaws.{of-appends, of-counts, of-payloads}

-- ---- figures in their ranges
-- beside 0, a place or how many blocks
pub above-back : (n : ℕ) → n ≤ 128 → (number_part (256 * n) ≡ 0) × (place_part (256 * n) ≡ n) × (count_part (256 * n) ≡ n)
above-back n few = (omega arith, omega arith, omega arith)

-- beside 33, the first bad block's place
pub bad-back : (p : ℕ) → p ≤ 128 → (number_part (bad_outcome p) ≡ 33) × (place_part (bad_outcome p) ≡ p) × (count_part (bad_outcome p) ≡ p)
bad-back p few = (omega arith, omega arith, omega arith)

-- beside 0, a payload's length and where it begins, and no place
pub bytes_back : (start n : ℕ) → n ≤ 504 → let x = part_outcome (Ok (part_from start n)) in
    (number_part x ≡ 0) × (place_part x ≡ 0) × (length_part x ≡ n) × (start_part x ≡ start)
bytes_back start n few = (omega arith, omega arith, omega arith, omega arith)

-- ---- values beside an answer
-- one value is the value, and of none there is none
only : (p q : ℕ) → ◌≡◌ {A = List ℕ} (p ∷ []) (q ∷ []) → p ≡ q
only p q e = cc

none : {A : Type 0} (q : ℕ) → ◌≡◌ {A = List ℕ} [] (q ∷ []) → A
none q e = let z : ◌≡◌ {A = ℕ} 0 1 = cc in absurd (omega (arith, z))

-- ---- clearing
-- the answer that its outcome tells
abbrev pub cleared_in : ℕ → Result ⊤ OtherSize
cleared_in x = cond (eqb (number_part x) 0) (Ok tt) (Err other_size)

-- the outcome tells the answer, and has its number
pub clear-back : (m : List ℕ) → (cleared_in (cleared_outcome (cleared_of m)) ≡ cleared_of m) × (number_part (cleared_outcome (cleared_of m)) ≡ cleared_number (cleared_of m))
clear-back m = go (whole m)
  where
    go : (t : Bool) → let c = cond t (Ok tt) (Err other_size) in (cleared_in (cleared_outcome c) ≡ c) × (number_part (cleared_outcome c) ≡ cleared_number c)
    go true = (refl, refl)
    go false = (refl, refl)

-- ---- appends
-- the answer that an append's outcome tells
abbrev refused_by : ℕ → ℕ → AppendError
refused_by n p =
    cond (eqb n 33) (AppendError.Unsound (Unsound.BadBlock p))
    (cond (eqb n 34) (AppendError.Unsound Unsound.WrongSize) (cond (eqb n 31) AppendError.PayloadLength AppendError.Full))

abbrev taken_by : ℕ → ℕ → Result ℕ AppendError
taken_by n p = cond (eqb n 0) (Ok p) (Err (refused_by n p))

abbrev pub taken_in : ℕ → Result ℕ AppendError
taken_in x = taken_by (number_part x) (place_part x)

-- an append's outcome tells the answer
pub append-back : (m x : List ℕ) → taken_in (taken_outcome (taken_of m x)) ≡ taken_of m x
append-back =
    of-appends (λ t. taken_in (taken_outcome t) ≡ t) refl refl refl
    (λ p h. let b = bad-back p h in λ i. taken_by (b.0 i) (b.1 i))
    (λ p h. let b = above-back p h in λ i. taken_by (b.0 i) (b.1 i))

-- it has the answer's number, and the place beside it
pub append-told : (m x : List ℕ) → let t = taken_of m x in
    (number_part (taken_outcome t) ≡ taken_number t) × ((p : ℕ) → taken_values t ≡ p ∷ [] → place_part (taken_outcome t) ≡ p)
append-told =
    of-appends (λ t. (number_part (taken_outcome t) ≡ taken_number t) × ((p : ℕ) → taken_values t ≡ p ∷ [] → place_part (taken_outcome t) ≡ p))
    (refl, λ p e. none p e) (refl, λ p e. none p e) (refl, λ p e. none p e)
    (λ p h. let b = bad-back p h in (b.0, λ q e. b.1 ∙ only p q e))
    (λ p h. let b = above-back p h in (b.0, λ q e. b.1 ∙ only p q e))

-- ---- how many blocks are finished
-- the answer that its outcome tells
abbrev unsound_by : ℕ → ℕ → Unsound
unsound_by n p = cond (eqb n 33) (Unsound.BadBlock p) Unsound.WrongSize

abbrev held_by : ℕ → ℕ → Result ℕ Unsound
held_by n p = cond (eqb n 0) (Ok p) (Err (unsound_by n p))

abbrev pub held_in : ℕ → Result ℕ Unsound
held_in x = held_by (number_part x) (count_part x)

-- the outcome tells the answer
pub finished-back : (m : List ℕ) → held_in (held_outcome (held_of m)) ≡ held_of m
finished-back =
    of-counts (λ h. held_in (held_outcome h) ≡ h) refl
    (λ p h. let b = bad-back p h in λ i. held_by (b.0 i) (b.2 i))
    (λ n h. let b = above-back n h in λ i. held_by (b.0 i) (b.2 i))

-- it has the answer's number, and how many or the place beside it
pub finished-told : (m : List ℕ) → let h = held_of m in
    (number_part (held_outcome h) ≡ held_number h) × ((n : ℕ) → held_values h ≡ n ∷ [] → (count_part (held_outcome h) ≡ n) × (place_part (held_outcome h) ≡ n))
finished-told =
    of-counts (λ h. (number_part (held_outcome h) ≡ held_number h) × ((n : ℕ) → held_values h ≡ n ∷ [] → (count_part (held_outcome h) ≡ n) × (place_part (held_outcome h) ≡ n)))
    (refl, λ n e. none n e)
    (λ p h. let b = bad-back p h in (b.0, λ q e. (b.2 ∙ only p q e, b.1 ∙ only p q e)))
    (λ n h. let b = above-back n h in (b.0, λ q e. (b.2 ∙ only n q e, b.1 ∙ only n q e)))

-- ---- payloads
-- the answer that a payload's outcome tells
abbrev part_by : ℕ → ℕ → ℕ → ℕ → Result Part Unsound
part_by n p start length = cond (eqb n 0) (Ok (part_from start length)) (Err (unsound_by n p))

abbrev pub part_in : ℕ → Result Part Unsound
part_in x = part_by (number_part x) (place_part x) (start_part x) (length_part x)

-- a payload's outcome tells the answer
pub payload-back : (m : List ℕ) (p : ℕ) → part_in (part_outcome (part_of m p)) ≡ part_of m p
payload-back =
    of-payloads (λ t. part_in (part_outcome t) ≡ t) refl
    (λ p h. let b = bad-back p h in λ i. part_by (b.0 i) (b.1 i) (start_part (bad_outcome p)) (length_part (bad_outcome p)))
    (λ start n few within. let b = bytes_back start n few in λ i. part_by (b.0 i) (b.1 i) (b.3 i) (b.2 i))

-- that it has the answer's number, a bad block's place, and a payload's length and where it begins, and that the payload lies in the
-- capture
Told : Result Part Unsound → Type 0
Told t =
    (number_part (part_outcome t) ≡ part_number t) × ((q : ℕ) → part_values t ≡ q ∷ [] → place_part (part_outcome t) ≡ q)
    × ((start n : ℕ) → part_values t ≡ start ∷ n ∷ [] → (start_part (part_outcome t) ≡ start) × (length_part (part_outcome t) ≡ n) × (start + n ≤ 65536))

told-size : Told (Err Unsound.WrongSize)
unfolding Told
told-size = (refl, λ q e. none q e, λ start n e. let z : ◌≡◌ {A = ℕ} 0 1 = cc in absurd (omega (arith, z)))

told-bad : (p : ℕ) → p ≤ 128 → Told (Err (Unsound.BadBlock p))
unfolding Told
told-bad p h =
    let b = bad-back p h in
    (b.0, λ q e. b.1 ∙ only p q e, λ start n e. let z : ◌≡◌ {A = ℕ} 0 1 = cc in absurd (omega (arith, z)))

told-bytes : (start n : ℕ) → n ≤ 504 → start + n ≤ 65536 → Told (Ok (part_from start n))
unfolding Told
told-bytes start n few within =
    let b = bytes_back start n few in (
      b.0,
      λ q e. let z : ◌≡◌ {A = ℕ} 0 1 = cc in absurd (omega (arith, z)),
      λ from many e. let f : start ≡ from = cc in let g : n ≡ many = cc in (b.3 ∙ f, b.2 ∙ g, omega (arith, within, f, g)),
    )

pub payload-told : (m : List ℕ) (p : ℕ) → let t = part_of m p in let x = part_outcome t in
    (number_part x ≡ part_number t) × ((q : ℕ) → part_values t ≡ q ∷ [] → place_part x ≡ q)
    × ((start n : ℕ) → part_values t ≡ start ∷ n ∷ [] → (start_part x ≡ start) × (length_part x ≡ n) × (start + n ≤ 65536))
unfolding Told
payload-told = of-payloads Told told-size told-bad told-bytes
