-- Exactly the floors and counts that the definition names are left by a series.
use Prim.Native.Nat.{ℕ, zero, suc, ◌+◌, ◌%◌, ◌≤◌, ◌<◌}
use native.Mathlib.Omega.{arith}
use mathlib.Core.Path.{◌≡◌, refl, sym, ap, ◌∙◌}
use mathlib.Core.Bool.{Bool, true, false, cond, ◌&&◌, ◌||◌}
use mathlib.Core.List.{List, [], ◌∷◌}
use mathlib.Core.Logic.{◌↔◌}
use lib.Dec.{leb, ltb, eqb}
use borrow.Author.Tests.{leb-true, leb-false, le-leb, lt-ltb, eqb-true, eq-eqb, ne_eqb}
use Rattle.ledger.specs.Sets.{left_out, settled, count_to, runs_to, Highest}
use Rattle.ledger.specs.Ends.{falling, ends_from, settled_at, highest_in, fitted}
use Rattle.ledger.specs.Calls.{most_number, most_runs, ledger_of}
use Rattle.ledger.specs.History.{after, recorded}
use Rattle.ledger.specs.Floors.{can_leave, Leaves}
use Rattle.ledger.specs.declared.Ledger.{Ledger}
use Rattle.ledger.proofs.EndLaws.{both_left, both_right, falls-tail, falls-under, from-none, odd-settled, settled-odd}
use Rattle.ledger.proofs.SetLaws.{highest-once, highest-same}
use Rattle.ledger.proofs.TrueLaws.{ends-highest}
use Rattle.ledger.proofs.TurnLaws.{from-fewer, fitted-falls, fitted-whole, fitted-from}
use Rattle.ledger.proofs.FloorLaws.{Fits, no-floor, a-floor, fits-apart}
use Rattle.ledger.proofs.SettledLaws.{settled-above, settled-under}
use Rattle.ledger.proofs.RunLaws.{ends_of, ends-fall, ends-all, ends-count}
use Rattle.ledger.proofs.Series.{Holds, series-holds, series-floor}
use Rattle.ledger.proofs.Twenty.{good-reached}

-- from one number to the next no more than one end is passed
one-passed : (b y : ℕ) (es : List ℕ) → falling b es ≡ true → 1 ≤ y → ends_from y es ≤ ends_from (suc y) es + 1
one-passed b y [] h lo = omega arith
one-passed b y (e ∷ es) h lo = go (leb y e) refl (leb (suc y) e) refl (one-passed e y es (falls-tail b e es h) lo)
  where
    go : (s : Bool) → leb y e ≡ s → (t : Bool) → leb (suc y) e ≡ t → ends_from y es ≤ ends_from (suc y) es + 1
        → cond s 1 0 + ends_from y es ≤ cond t 1 0 + ends_from (suc y) es + 1
    go s p true q ih = more s
      where
        more : (s : Bool) → cond s 1 0 + ends_from y es ≤ 1 + ends_from (suc y) es + 1
        more true = omega arith
        more false = omega arith
    go s p false q ih = none s (from-none e y es (falls-tail b e es h) (omega (arith, leb-false (suc y) e q)) lo)
      where
        none : (s : Bool) → ends_from y es ≡ 0 → cond s 1 0 + ends_from y es ≤ 0 + ends_from (suc y) es + 1
        none true z = omega arith
        none false z = omega arith

-- so where all numbers up to one are settled no end lies below it
none_below : (b m : ℕ) (es : List ℕ) → falling b es ≡ true → ((y : ℕ) → 1 ≤ y → y ≤ suc m → ends_from y es % 2 ≡ 1) → ends_from 1 es ≡ ends_from (suc m) es
none_below b zero es h odd = refl
none_below b (suc m) es h odd =
    let ih : ends_from 1 es ≡ ends_from (suc m) es = none_below b m es h (λ (y : ℕ) (lo : 1 ≤ y) (hi : y ≤ suc m). odd y lo (omega arith)) in
    omega (
      arith,
      one-passed b (suc m) es h (omega arith),
      from-fewer (suc m) (suc (suc m)) es (omega arith),
      odd (suc m) (omega arith) (omega arith),
      odd (suc (suc m)) (omega arith) (omega arith),
    )

module _ (f : ℕ → Bool) (floor given top : ℕ) (hi : Highest (settled floor f) top) where
  -- what a series leaves
  left-can : Leaves f floor given → can_leave f top floor given ≡ true
  left-can left = go h.good.fits
    where
      h : Holds (recorded left.series) (after left.series)
      h = series-holds left.series

      is-floor : (after left.series).floor ≡ floor
      is-floor = series-floor left.series ∙ left.its-floor

      is-given : (after left.series).given ≡ given
      is-given = h.is-given ∙ ap (λ (k : ℕ). count_to (left_out (recorded left.series)) k) is-floor ∙ left.its-count

      same : (y : ℕ) → 1 ≤ y → settled_at (after left.series).ends y ≡ settled floor f y
      same y lo = h.settles y lo ∙ ap (λ (k : ℕ). settled k (recorded left.series) y) is-floor ∙ above (leb y floor) refl
        where
          above : (t : Bool) → leb y floor ≡ t → settled floor (recorded left.series) y ≡ settled floor f y
          above true p = settled-under floor (recorded left.series) y (leb-true y floor p) ∙ sym (settled-under floor f y (leb-true y floor p))
          above false p = ap (λ (t : Bool). leb y floor || t) (left.its-numbers y (leb-false y floor p))

      is-top : highest_in (after left.series).ends ≡ top
      is-top =
          highest-once (settled floor f) (highest_in (after left.series).ends) top
          (highest-same (settled_at (after left.series).ends) (settled floor f) same (highest_in (after left.series).ends) (ends-highest (most_number + 1) (after left.series).ends h.good.falls)) hi

      go : Fits (after left.series).floor (after left.series).given (after left.series).ends → can_leave f top floor given ≡ true
      go (no-floor p q) = rw (eq-eqb floor 0 (omega (arith, is-floor)), eq-eqb given 0 (omega (arith, is-given))) refl
      go (a-floor a) =
          let low : 1 ≤ given = omega (arith, is-given, a.some) in
          let most : given ≤ floor = omega (arith, is-given, is-floor, a.most) in
          let below : floor < top = omega (arith, is-floor, is-top, fits-apart (most_number + 1) (after left.series).floor (after left.series).given (after left.series).ends h.good.falls (a-floor a) (omega (arith, a.some, a.most))) in
          let next : settled_at (after left.series).ends (floor + 1) ≡ true = ap (λ (k : ℕ). settled_at (after left.series).ends (k + 1)) (sym is-floor) ∙ odd-settled (after left.series).ends ((after left.series).floor + 1) a.odd in
          let is : f (floor + 1) ≡ true = sym (settled-above floor f (floor + 1) (omega arith)) ∙ sym (same (floor + 1) (omega arith)) ∙ next in
          rw (ne_eqb floor 0 (λ (z : floor ≡ 0). omega arith), le-leb 1 given low, le-leb given floor most, lt-ltb floor top below, is) refl

  -- the record of such numbers
  module _ (most : top ≤ most_number) (few : runs_to (settled floor f) top ≤ most_runs) where
    abbrev held : List ℕ
    held = ends_of (settled floor f) top

    held-falls : falling (most_number + 1) held ≡ true
    held-falls = falls-under (top + 1) (most_number + 1) held (omega arith) (ends-fall (settled floor f) top)

    held-settles : (y : ℕ) → 1 ≤ y → settled_at (fitted held) y ≡ settled floor f y
    held-settles y lo =
        ap (λ (k : ℕ). eqb (k % 2) 1) (fitted-from (most_number + 1) y held held-falls lo (omega (arith, ends-count (settled floor f) top hi)))
        ∙ ends-all (settled floor f) top y hi lo

    held_fits : can_leave f top floor given ≡ true → Fits floor given (fitted held)
    held_fits = go (eqb floor 0) refl
      where
        go : (t : Bool) → eqb floor 0 ≡ t → cond t (eqb given 0) (leb 1 given && (leb given floor && (ltb floor top && f (floor + 1)))) ≡ true → Fits floor given (fitted held)
        go true p can = no-floor (eqb-true floor 0 p) (eqb-true given 0 can)
        go false p can =
            let rest = ltb floor top && f (floor + 1) in
            let b1 : (leb given floor && rest) ≡ true = both_right (leb 1 given) (leb given floor && rest) can in
            let b2 : rest ≡ true = both_right (leb given floor) rest b1 in
            let next : f (floor + 1) ≡ true = both_right (ltb floor top) (f (floor + 1)) b2 in
            let all : (y : ℕ) → 1 ≤ y → y ≤ suc floor → ends_from y (fitted held) % 2 ≡ 1 =
            λ (y : ℕ) (lo : 1 ≤ y) (le : y ≤ suc floor). settled-odd (fitted held) y (held-settles y lo ∙ up (leb y floor) y refl le next) in
            let q : floor + 1 ≡ suc floor = omega arith in
            a-floor (record {
              some = leb-true 1 given (both_left (leb 1 given) (leb given floor && rest) can);
              most = leb-true given floor (both_left (leb given floor) rest b1);
              odd = all (floor + 1) (omega arith) (omega arith);
              none-under = none_below (most_number + 1) floor (fitted held) (fitted-falls (most_number + 1) held held-falls) all ∙ ap (λ (k : ℕ). ends_from k (fitted held)) (sym q);
            })
          where
            up : (t : Bool) → (y : ℕ) → leb y floor ≡ t → y ≤ suc floor → f (floor + 1) ≡ true → settled floor f y ≡ true
            up true y p le next = settled-under floor f y (leb-true y floor p)
            up false y p le next =
                let q : y ≡ floor + 1 = omega (arith, leb-false y floor p) in
                settled-above floor f y (leb-false y floor p) ∙ ap f q ∙ next

    can-left : can_leave f top floor given ≡ true → Leaves f floor given
    can-left can =
        let l = ledger_of (fitted held) floor given in
        let there = good-reached l (record { whole = fitted-whole held; falls = fitted-falls (most_number + 1) held held-falls; fits = held_fits can }) in
        let hs = there.0 in
        let h = series-holds hs in
        let is-floor : (after hs).floor ≡ floor = ap (λ (x : Ledger). x.floor) there.1 in
        record {
          series = hs;
          its-floor = sym (series-floor hs) ∙ is-floor;
          its-count = ap (λ (k : ℕ). count_to (left_out (recorded hs)) k) (sym is-floor) ∙ sym h.is-given ∙ ap (λ (x : Ledger). x.given) there.1;
          its-numbers = λ (y : ℕ) (lt : floor < y).
              sym (settled-above (after hs).floor (recorded hs) y (omega (arith, is-floor))) ∙ sym (h.settles y (omega arith))
              ∙ ap (λ (x : Ledger). settled_at x.ends y) there.1 ∙ held-settles y (omega arith) ∙ settled-above floor f y lt;
        }

-- both directions, beside any numbers above the floor that leave no more than 64 runs
pub floors-exactly : (f : ℕ → Bool) (floor given top : ℕ) → Highest (settled floor f) top → top ≤ most_number → runs_to (settled floor f) top ≤ most_runs
    → Leaves f floor given ↔ (can_leave f top floor given ≡ true)
floors-exactly f floor given top hi most few = (left-can f floor given top hi, can-left f floor given top hi most few)
