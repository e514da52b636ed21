-- The promise over histories: after any series of appends, each cut anywhere or finished, what each call tells.
use Rattle.std.specs.Prelude.{Ok}
use Prim.Native.Nat.{ℕ, ◌+◌, ◌-◌, ◌<◌, ◌≤◌}
use mathlib.Core.Path.{◌≡◌, refl, sym, ap, ◌∙◌}
use mathlib.Core.Bool.{Bool, true, false, cond, ◌&&◌}
use mathlib.Core.List.{List, [], ◌∷◌}
use native.Mathlib.Omega.{arith}
use borrow.Author.Tests.{eq-eqb, le-leb, lt-leb, eqb-true, eqb-false, leb-true, leb-false}
use lib.ListN.{length, get_or, take, drop, get_or-eq_default}
use lib.Seq.{take-take, drop-drop}
use lib.Dec.{eqb, leb}
use Rattle.capture.specs.Blocks.{used, payload}
use Rattle.capture.specs.Captures.{start_of, block_at, numbered}
use Rattle.capture.specs.Calls.{held_of, is_finished, part_from, part_of, part_number}
use Rattle.capture.specs.declared.Part.{Part}
use Rattle.capture.proofs.BlockLaws.{drop-take-add}
use Rattle.laws_capture.specs.Series.{Attempt, kept, kept_at, after, handed, Tells}
use Rattle.laws_capture.proofs.BlockTrip.{fits-from, used-block, payload-block}
use Rattle.laws_capture.proofs.HoldLaws.{Holds, finished-at, holds-good, holds-found, holds-taken, append-holds}
use Rattle.laws_capture.proofs.GoodLaws.{fresh_holds}

-- ---- what is told of a capture that holds some payloads
module _ (m : List ℕ) (ps : List (List ℕ)) (h : Holds m ps) where
  pub holds-counts : held_of m ≡ Ok (length ps)
  unfolding held_of
  holds-counts = rw (eq-eqb (length m) 65536 h.long, holds-good m ps h) (ap (λ (l : List (List ℕ)). Ok (length l)) (holds-found m ps h))

  -- a payload is a part of the capture
  payload-part : (p : ℕ) → used (block_at m p) ≤ 506 → take (used (block_at m p)) (drop (start_of p + 6) m) ≡ payload (block_at m p)
  unfolding payload block_at
  payload-part p few =
      let n = used (block_at m p) in
      let l = drop (start_of p) m in
      ap (take n) (sym (drop-drop 6 (start_of p) m)) ∙ sym (take-take n 506 (drop 6 l) few) ∙ ap (take n) (sym (drop-take-add 6 506 l))

  module _ (p : ℕ) where
    abbrev there : Part
    there = part_from (start_of p + 6) (used (block_at m p))

    part-is : part_of m p ≡ Ok (cond (is_finished m p) there (part_from 0 0))
    unfolding part_of
    part-is = rw (eq-eqb (length m) 65536 h.long, holds-good m ps h) refl

    -- a place that is kept
    handed-kept : 1 ≤ p → p ≤ length ps → take (used (block_at m p)) (drop (start_of p + 6) m) ≡ get_or ps (p - 1) []
    handed-kept f t =
        let x = get_or ps (p - 1) [] in
        let fit = (fits-from x (h.fit p f t)).1 in
        let low : p ≤ 128 = omega (arith, t, h.few) in
        let n : used (block_at m p) ≡ length x = ap used (h.at p f t) ∙ used-block p x low fit in
        payload-part p (omega (arith, n, fit)) ∙ ap payload (h.at p f t) ∙ payload-block p x low fit

    at_place : handed m (Ok (cond (is_finished m p) there (part_from 0 0))) ≡ kept_at ps p
    unfolding is_finished
    at_place = go (eqb p 0) (leb p (length ps)) refl refl
      where
        go : (z l : Bool) → eqb p 0 ≡ z → leb p (length ps) ≡ l
            → handed m (Ok (cond (leb 1 p && (leb p 128 && numbered m p)) there (part_from 0 0))) ≡ cond z [] (get_or ps (p - 1) [])
        go true l z e = rw (lt-leb 1 p (omega (arith, eqb-true p 0 z))) refl
        go false true z e =
            let f : 1 ≤ p = omega (arith, eqb-false p 0 z) in
            let t = leb-true p (length ps) e in
            rw (le-leb 1 p f, le-leb p 128 (omega (arith, t, h.few)), finished-at m ps h p f t) (handed-kept f t)
        go false false z e =
            let t = leb-false p (length ps) e in
            let none : get_or ps (p - 1) [] ≡ [] = get_or-eq_default ps [] {n = p - 1} (omega (arith, t)) in
            past (leb p 128) refl t ∙ sym none
          where
            past : (s : Bool) → leb p 128 ≡ s → length ps < p → handed m (Ok (cond (leb 1 p && (s && numbered m p)) there (part_from 0 0))) ≡ []
            past true u t = rw (le-leb 1 p (omega (arith, t)), h.rest p t (leb-true p 128 u)) refl
            past false u t = rw (le-leb 1 p (omega (arith, t))) refl

    pub holds-accepts : part_number (part_of m p) ≡ 0
    holds-accepts = ap part_number part-is ∙ go (is_finished m p)
      where
        go : (s : Bool) → part_number (Ok (cond s there (part_from 0 0))) ≡ 0
        go true = refl
        go false = refl

    pub holds-hands : handed m (part_of m p) ≡ kept_at ps p
    holds-hands = ap (handed m) part-is ∙ at_place

-- ---- any series
pub series-holds : (ts : List Attempt) → Holds (after ts) (kept ts)
series-holds [] = fresh_holds
series-holds (t ∷ ts) = append-holds (after ts) (kept ts) t (series-holds ts)

pub series-tells : (ts : List Attempt) → Tells ts
series-tells ts =
    let h = series-holds ts in
    record {
      long = h.long;
      no-bad = holds-good (after ts) (kept ts) h;
      finds = holds-found (after ts) (kept ts) h;
      counts = holds-counts (after ts) (kept ts) h;
      answers = holds-taken (after ts) (kept ts) h;
      accepts = holds-accepts (after ts) (kept ts) h;
      hands = holds-hands (after ts) (kept ts) h;
    }
