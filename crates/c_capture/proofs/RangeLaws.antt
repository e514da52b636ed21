-- The answers of a capture's calls: a place and how many blocks there are is at most 128, and a payload has at most 504 bytes and lies in
-- the capture.
use Rattle.std.specs.Prelude.{Result, Ok, Err}
use Prim.Native.Nat.{ℕ, zero, suc, ◌+◌, ◌≤◌, ◌<◌}
use mathlib.Core.Path.{◌≡◌, refl, sym, subst}
use mathlib.Core.Bool.{Bool, true, false, cond, not, ◌&&◌, ◌||◌}
use mathlib.Core.List.{List}
use native.Mathlib.Omega.{arith}
use lib.ListN.{length}
use lib.Dec.{T, eqb, leb}
use borrow.Author.Tests.{eqb-true, leb-true}
use Rattle.capture.specs.Blocks.{number, used, in_range, zeros_behind, check_fits, intact}
use Rattle.capture.specs.Captures.{whole, start_of, block_at, unfinished_at, numbered, follows, bad, first_from, first_bad, first_unfinished, found}
use Rattle.capture.specs.Calls.{held_of, is_finished, part_from, part_of}
use Rattle.capture.specs.declared.Unsound.{Unsound}
use Rattle.capture.specs.declared.Part.{Part}
use Rattle.capture.proofs.JudgeLaws.{first-none, found-most}
use Rattle.capture_append.specs.Appending.{misfit, taken_of}
use Rattle.capture_append.specs.declared.AppendError.{AppendError}
use Rattle.c_capture.specs.Outcomes.{unsound_outcome, taken_outcome, held_outcome, part_outcome}

no_false : false ≡ true → ⊥
no_false e = subst T (sym e) tt

and_left : (a b : Bool) → (a && b) ≡ true → a ≡ true
and_left true b h = refl
and_left false b h = h

and_right : (a b : Bool) → (a && b) ≡ true → b ≡ true
and_right true b h = h
and_right false b h = absurd (no_false h)

-- where a numbered block is not bad, it is intact
good-intact : (n a f i : Bool) → n ≡ true → (n && (a || (f || not i))) ≡ false → i ≡ true
good-intact true true f i h b = absurd (no_false (sym b))
good-intact true false true i h b = absurd (no_false (sym b))
good-intact true false false true h b = refl
good-intact true false false false h b = absurd (no_false (sym b))
good-intact false a f i h b = absurd (no_false h)

-- what a search finds is one of the places that it looks at, or 0
first-most : (test : ℕ → Bool) (k p : ℕ) → 1 ≤ p → first_from test k p < p + k
first-most test zero p one = omega arith
first-most test (suc k) p one = go (test p) (first-most test k (p + 1) (omega arith))
  where
    go : (t : Bool) → first_from test k (p + 1) < p + 1 + k → cond t p (first_from test k (p + 1)) < p + suc k
    go true ih = omega arith
    go false ih = omega (arith, ih)

module _ (m : List ℕ) where
  bad-most : first_bad m ≤ 128
  unfolding first_bad
  bad-most = omega (arith, first-most (bad m) 128 1 (omega arith))

  open-most : first_unfinished m ≤ 128
  unfolding first_unfinished
  open-most = omega (arith, first-most (unfinished_at m) 128 1 (omega arith))

  -- a block that is numbered and not bad has at most 504 used bytes
  used-most : (p : ℕ) → numbered m p ≡ true → bad m p ≡ false → used (block_at m p) ≤ 504
  unfolding bad intact in_range
  used-most p has fine =
      leb-true (used (block_at m p)) 504
      (and_right (leb 1 (used (block_at m p))) _ (and_left _ (zeros_behind (block_at m p) && check_fits (block_at m p))
      (good-intact (numbered m p) (not (eqb (number (block_at m p)) p)) (follows m p) _ has fine)))

  -- the payload at a place that is finished, of a capture in which no block is bad
  part_small : first_bad m ≡ 0 → (p : ℕ) → is_finished m p ≡ true → (used (block_at m p) ≤ 504) × (start_of p + 6 + used (block_at m p) ≤ 65536)
  unfolding first_bad is_finished
  part_small none p is =
      let from : 1 ≤ p = leb-true 1 p (and_left (leb 1 p) _ is) in
      let rest = and_right (leb 1 p) _ is in
      let to : p ≤ 128 = leb-true p 128 (and_left (leb p 128) _ rest) in
      let few = used-most p (and_right (leb p 128) _ rest) (first-none m (bad m) 128 1 (omega arith) none p from (omega arith)) in
      (few, omega (arith, few))

-- ---- what holds of every answer that a call has holds of the answer to any bytes
-- an append
pub of-appends : (P : Result ℕ AppendError → Type 0) → P (Err (AppendError.Unsound Unsound.WrongSize)) → P (Err AppendError.PayloadLength) → P (Err AppendError.Full)
    → ((p : ℕ) → p ≤ 128 → P (Err (AppendError.Unsound (Unsound.BadBlock p)))) → ((p : ℕ) → p ≤ 128 → P (Ok p)) → (m x : List ℕ) → P (taken_of m x)
unfolding taken_of
of-appends P size misfits full damaged at m x = go (whole m) (misfit x) (eqb (first_bad m) 0) (eqb (first_unfinished m) 0)
  where
    go : (s f b u : Bool) → P (cond (not s) (Err (AppendError.Unsound Unsound.WrongSize)) (cond f (Err AppendError.PayloadLength) (cond (not b) (Err (AppendError.Unsound (Unsound.BadBlock (first_bad m)))) (cond u (Err AppendError.Full) (Ok (first_unfinished m))))))
    go false f b u = size
    go true true b u = misfits
    go true false false u = damaged (first_bad m) (bad-most m)
    go true false true true = full
    go true false true false = at (first_unfinished m) (open-most m)

-- how many blocks are finished
pub of-counts : (P : Result ℕ Unsound → Type 0) → P (Err Unsound.WrongSize) → ((p : ℕ) → p ≤ 128 → P (Err (Unsound.BadBlock p))) → ((n : ℕ) → n ≤ 128 → P (Ok n))
    → (m : List ℕ) → P (held_of m)
unfolding held_of
of-counts P size damaged blocks m = go (whole m) (eqb (first_bad m) 0) refl
  where
    go : (s b : Bool) → eqb (first_bad m) 0 ≡ b → P (cond (not s) (Err Unsound.WrongSize) (cond (not b) (Err (Unsound.BadBlock (first_bad m))) (Ok (length (found m)))))
    go false b e = size
    go true false e = damaged (first_bad m) (bad-most m)
    go true true e = blocks (length (found m)) (found-most m (eqb-true (first_bad m) 0 e))

-- the payload at a place
pub of-payloads : (P : Result Part Unsound → Type 0) → P (Err Unsound.WrongSize) → ((p : ℕ) → p ≤ 128 → P (Err (Unsound.BadBlock p)))
    → ((start n : ℕ) → n ≤ 504 → start + n ≤ 65536 → P (Ok (part_from start n))) → (m : List ℕ) (p : ℕ) → P (part_of m p)
unfolding part_of
of-payloads P size damaged bytes m p = go (whole m) (eqb (first_bad m) 0) (is_finished m p) refl refl
  where
    go : (s b f : Bool) → eqb (first_bad m) 0 ≡ b → is_finished m p ≡ f
        → P (cond (not s) (Err Unsound.WrongSize) (cond (not b) (Err (Unsound.BadBlock (first_bad m))) (Ok (cond f (part_from (start_of p + 6) (used (block_at m p))) (part_from 0 0)))))
    go false b f e is = size
    go true false f e is = damaged (first_bad m) (bad-most m)
    go true true true e is = let few = part_small m (eqb-true (first_bad m) 0 e) p is in bytes (start_of p + 6) (used (block_at m p)) few.0 few.1
    go true true false e is = bytes 0 0 (omega arith) (omega arith)

-- ---- the outcomes fit 64 bits
pub append-fits : (m x : List ℕ) → taken_outcome (taken_of m x) ≤ 32801
append-fits = of-appends (λ t. taken_outcome t ≤ 32801) (omega arith) (omega arith) (omega arith) (λ p h. omega (arith, h)) (λ p h. omega (arith, h))

pub finished-fits : (m : List ℕ) → held_outcome (held_of m) ≤ 32801
finished-fits = of-counts (λ h. held_outcome h ≤ 32801) (omega arith) (λ p h. omega (arith, h)) (λ n h. omega (arith, h))

pub payload-fits : (m : List ℕ) (p : ℕ) → part_outcome (part_of m p) ≤ 281475009740800
payload-fits = of-payloads (λ t. part_outcome t ≤ 281475009740800) (omega arith) (λ p h. omega (arith, h)) (λ start n few within. omega (arith, few, within))

-- where reading a place is refused, the outcome is one of a refusal
abbrev pub refusal : Result Part Unsound → ℕ
refusal (Ok part) = 0
refusal (Err e) = unsound_outcome e

pub refusal-fits : (m : List ℕ) (p : ℕ) → refusal (part_of m p) ≤ 32801
refusal-fits = of-payloads (λ t. refusal t ≤ 32801) (omega arith) (λ p h. omega (arith, h)) (λ start n few within. omega arith)
