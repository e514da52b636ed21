-- Recording a missing run at its place among the ends.
use Prim.Native.Nat.{ℕ, zero, suc, ◌+◌, ◌-◌, ◌≤◌, ◌<◌}
use native.Mathlib.Omega.{arith}
use native.Mathlib.Numerals.{add-one}
use mathlib.Core.Path.{◌≡◌, refl, sym, ap, ◌∙◌}
use mathlib.Core.Bool.{Bool, true, false, ◌&&◌}
use mathlib.Core.List.{List, [], ◌∷◌, ◌++◌, append_assoc}
use lib.ListN.{length, get_or, take, drop, set, replicate, length-append, length-drop, take-append-drop}
use lib.Seq.{length-take-le, set_split, take-append-le, take-append-add, append_snoc}
use lib.Dec.{leb, ltb, eqb}
use borrow.Author.Tests.{eqb-true, eqb-false, leb-true, leb-false, le-leb, lt-ltb, le-ltb}
use Rattle.std.specs.Prelude.{Ok, Err}
use Rattle.ledger.specs.Ends.{places, ends_from, runs_in, turned, with_run, fitted}
use Rattle.ledger.specs.Calls.{most_number, most_runs}
use Rattle.ledger_arrivals.specs.Steps.{RoomAt, NoneBetween, Alone, taken_answer, taken_ends}
use Rattle.ledger.specs.declared.Arrival.{Arrival}
use Rattle.ledger.specs.declared.LedgerError.{LedgerError}
use Rattle.ledger.proofs.EndLaws.{both_left, both_right, falls-far, falls-strictly, from-below, from-above, from-length}
use Rattle.ledger_ends.proofs.LoopLaws.{at_drop}
use Rattle.ledger.proofs.TurnLaws.{turn-out, turn_in, from-append, from-fewer, fitted-same}

-- every end of a list lies above a number
over : ℕ → List ℕ → Bool
over x [] = true
over x (e ∷ es) = ltb x e && over x es

over-take : (x k : ℕ) (es : List ℕ) → k ≤ length es → ((i : ℕ) → i < k → x < get_or es i 0) → over x (take k es) ≡ true
unfolding over
over-take x zero es le h = refl
over-take x (suc k) [] le h = absurd (omega arith)
over-take x (suc k) (e ∷ es) le h = rw (lt-ltb x e (h 0 (omega arith))) (over-take x k es (omega arith) (λ (i : ℕ) (lt : i < k). h (suc i) (omega arith)))

over-more : (x y : ℕ) (es : List ℕ) → over x es ≡ true → x < y → over x (es ++ (y ∷ [])) ≡ true
unfolding over
over-more x y [] h lt = rw (lt-ltb x y lt) refl
over-more x y (e ∷ es) h lt = go (ltb x e) h (λ (t : over x es ≡ true). over-more x y es t lt)
  where
    go : (t : Bool) → (t && over x es) ≡ true → (over x es ≡ true → over x (es ++ (y ∷ [])) ≡ true) → (t && over x (es ++ (y ∷ []))) ≡ true
    go true h ih = ih h
    go false h ih = h

-- an end turned passes those above it
turn-past : (x : ℕ) (p q : List ℕ) → over x p ≡ true → turned x (p ++ q) ≡ p ++ turned x q
unfolding over
turn-past x [] q h = refl
turn-past x (e ∷ p) q h =
    rw (both_left (ltb x e) (over x p) h) (ap (λ (t : List ℕ). e ∷ t) (turn-past x p q (both_right (ltb x e) (over x p) h)))

-- ends that need no more places than there are leave no more than 64 runs
pub few-runs : (more : List ℕ) → length more ≤ places → ltb most_runs (runs_in more) ≡ false
few-runs more le = le-ltb most_runs (runs_in more) (omega (arith, from-length 1 more))

fitted_short : (more : List ℕ) → length more + 2 ≡ places → fitted more ≡ more ++ (0 ∷ 0 ∷ [])
fitted_short more h = ap (λ (n : ℕ). take n (more ++ replicate places 0)) (sym h) ∙ take-append-add more (replicate places 0) 2

-- what is answered and left when these ends fit
taken-new : (more es left : List ℕ) → ltb most_runs (runs_in more) ≡ false → fitted more ≡ left → (Ok Arrival.New ≡ taken_answer more) × (left ≡ taken_ends more es)
taken-new more es left few fit = (rw few refl, rw few (sym fit))

module _ (at before last : ℕ) (es : List ℕ) (m : NoneBetween at before last es) where
  -- the ends before the place are the last number of the run or above it, the one there is at most the number before it
  above-last : (i : ℕ) → i < at → last ≤ get_or es i 0
  above-last i lt = from-below (most_number + 1) last es i m.falls (omega (arith, m.in_order)) (omega (arith, m.ends_above))

  at-most-before : get_or es at 0 ≤ before
  at-most-before = go (leb (before + 1) (get_or es at 0)) refl
    where
      go : (t : Bool) → leb (before + 1) (get_or es at 0) ≡ t → get_or es at 0 ≤ before
      go true p = absurd (omega (arith, m.none_between, from-above (most_number + 1) (before + 1) es at m.falls (omega arith) (leb-true (before + 1) (get_or es at 0) p)))
      go false p = omega (arith, leb-false (before + 1) (get_or es at 0) p)

  at_place : drop at es ≡ get_or es at 0 ∷ drop (at + 1) es
  at_place = at_drop es at (omega (arith, m.whole, m.in_list))

  -- the number before the run: the stretch below ends there, or is not there
  low-joins : get_or es at 0 ≡ before → turned before (drop at es) ≡ drop (at + 1) es
  low-joins q = rw (at_place, q) (turn-out before (drop (at + 1) es))

  low-opens : (get_or es at 0 ≡ before → ⊥) → turned before (drop at es) ≡ before ∷ drop at es
  low-opens ne = rw at_place (turn_in before (get_or es at 0) (drop (at + 1) es) (omega (arith, at-most-before)))

  -- the missing stretch goes on behind the run
  high-opens : ((0 < at) → get_or es (at - 1) 0 ≡ last → ⊥) → with_run before last es ≡ (take at es ++ (last ∷ [])) ++ turned before (drop at es)
  high-opens ne =
      let long : at ≤ length es = omega (arith, m.whole, m.in_list) in
      let over_last : (i : ℕ) → i < at → last < get_or es i 0 = λ (i : ℕ) (lt : i < at).
      (let other : get_or es (at - 1) 0 ≡ last → ⊥ = ne (omega arith) in
      omega (arith, above-last (at - 1) (omega arith), falls-far (most_number + 1) es i (at - 1) m.falls (omega arith))) in
      let past-last : over last (take at es) ≡ true = over-take last at es long over_last in
      let past-before : over before (take at es ++ (last ∷ [])) ≡ true =
      over-more before last (take at es) (over-take before at es long (λ (i : ℕ) (lt : i < at). omega (arith, m.in_order, above-last i lt))) m.in_order in
      let low : turned last (drop at es) ≡ last ∷ drop at es =
      rw at_place (turn_in last (get_or es at 0) (drop (at + 1) es) (omega (arith, at-most-before, m.in_order))) in
      let turned-last : turned last es ≡ (take at es ++ (last ∷ [])) ++ drop at es =
      ap (λ (t : List ℕ). turned last t) (sym (take-append-drop at es)) ∙ turn-past last (take at es) (drop at es) past-last
      ∙ ap (λ (t : List ℕ). take at es ++ t) low ∙ sym (append_snoc (take at es) last (drop at es)) in
      ap (λ (t : List ℕ). turned before t) turned-last ∙ turn-past before (take at es ++ (last ∷ [])) (drop at es) past-before

  front : length (take at es) ≡ at
  front = length-take-le at es (omega (arith, m.whole, m.in_list))

  -- the run joins the stretch below, which ends higher
  pub taken-raises : ((0 < at) → get_or es (at - 1) 0 ≡ last → ⊥) → get_or es at 0 ≡ before
      → (Ok Arrival.New ≡ taken_answer (with_run before last es)) × (set es at last ≡ taken_ends (with_run before last es) es)
  taken-raises hi lo =
      let more = take at es ++ (last ∷ drop (at + 1) es) in
      let is-more : with_run before last es ≡ more =
      high-opens hi ∙ ap (λ (t : List ℕ). (take at es ++ (last ∷ [])) ++ t) (low-joins lo) ∙ append_snoc (take at es) last (drop (at + 1) es) in
      let long : length more ≡ places = omega (arith, m.whole, m.in_list, front, length-append (take at es) (last ∷ drop (at + 1) es), length-drop (at + 1) es) in
      rw is-more (taken-new more es (set es at last) (few-runs more (omega arith)) (fitted-same more long ∙ sym (set_split es at last (omega (arith, m.whole, m.in_list)) ∙ rw (add-one at) refl)))

  -- it stands alone: two ends come in
  two_ends : ((0 < at) → get_or es (at - 1) 0 ≡ last → ⊥) → (get_or es at 0 ≡ before → ⊥) → with_run before last es ≡ take at es ++ (last ∷ before ∷ drop at es)
  two_ends hi lo = high-opens hi ∙ ap (λ (t : List ℕ). (take at es ++ (last ∷ [])) ++ t) (low-opens lo) ∙ append_snoc (take at es) last (before ∷ drop at es)

  two-more : (get_or es at 0 ≡ before → ⊥) → ends_from 1 (take at es ++ (last ∷ before ∷ drop at es)) ≡ ends_from 1 es + 2
  two-more lo =
      let all : ends_from 1 es ≡ ends_from 1 (take at es) + ends_from 1 (drop at es) = ap (λ (t : List ℕ). ends_from 1 t) (sym (take-append-drop at es)) ∙ from-append 1 (take at es) (drop at es) in
      from-append 1 (take at es) (last ∷ before ∷ drop at es)
      ∙ rw (le-leb 1 last (omega (arith, m.in_order)), le-leb 1 before (omega (arith, at-most-before))) (omega arith)

-- a run that stands alone
module _ (at before last : ℕ) (es : List ℕ) (a : Alone at before last es) where
  m : NoneBetween at before last es
  m = a.between

  more : List ℕ
  more = take at es ++ (last ∷ before ∷ drop at es)

  is-more : with_run before last es ≡ more
  unfolding more
  is-more = two_ends at before last es m a.apart_above a.apart_below

  count-more : ends_from 1 more ≡ ends_from 1 es + 2
  unfolding more
  count-more = two-more at before last es m a.apart_below

  -- there is no room for it
  pub taken-full : (get_or es 127 0 ≡ 0 → ⊥) → (Err LedgerError.TooManyRuns ≡ taken_answer (with_run before last es)) × (es ≡ taken_ends (with_run before last es) es)
  taken-full full =
      let many : 127 < ends_from 1 es = from-above (most_number + 1) 1 es 127 m.falls (omega arith) (omega arith) in
      let over-most : ltb most_runs (runs_in more) ≡ true = lt-ltb most_runs (runs_in more) (omega (arith, count-more)) in
      rw (is-more, over-most) (refl, refl)

  few-ends : get_or es 127 0 ≡ 0 → ends_from 1 es ≤ 127
  few-ends room = go (leb (ends_from 1 es) 127) refl
    where
      go : (t : Bool) → leb (ends_from 1 es) 127 ≡ t → ends_from 1 es ≤ 127
      go true p = leb-true (ends_from 1 es) 127 p
      go false p = absurd (omega (arith, from-below (most_number + 1) 1 es 127 m.falls (omega arith) (leb-false (ends_from 1 es) 127 p)))

  -- or there is
  pub room-for-two : get_or es 127 0 ≡ 0 → RoomAt at es
  room-for-two room = record {
    whole = m.whole;
    falls = m.falls;
    two-places = omega (arith, few-ends room, m.ends_above, from-fewer 1 last es (omega (arith, m.in_order)));
  }

  pub taken-opens : get_or es 127 0 ≡ 0 → (left : List ℕ) → left ≡ take at es ++ (last ∷ before ∷ take (127 - at) (drop at es))
      → (Ok Arrival.New ≡ taken_answer (with_run before last es)) × (left ≡ taken_ends (with_run before last es) es)
  unfolding more
  taken-opens room left is-left =
      let few : ends_from 1 es ≤ 127 = few-ends room in
      let under-most : ltb most_runs (runs_in more) ≡ false = le-ltb most_runs (runs_in more) (omega (arith, count-more)) in
      let low : at + 2 ≤ places = (room-for-two room).two-places in
      let front_at : length (take at es) ≡ at = front at before last es m in
      let long : places ≤ length more = omega (arith, m.whole, front_at, length-append (take at es) (last ∷ before ∷ drop at es), length-drop at es) in
      let count : places ≡ length (take at es) + suc (suc (127 - at)) = omega (arith, front_at) in
      let fit : fitted more ≡ take at es ++ (last ∷ before ∷ take (127 - at) (drop at es)) =
      take-append-le places more (replicate places 0) long ∙ ap (λ (n : ℕ). take n more) count ∙ take-append-add (take at es) (last ∷ before ∷ drop at es) (suc (suc (127 - at))) in
      rw is-more (taken-new more es left under-most (fit ∙ sym is-left))

-- the last numbers of the missing stretch that ends at a place
module _ (at before : ℕ) (es : List ℕ) (m : NoneBetween (at + 1) before (get_or es at 0) es) where
  front_at : length (take at es) ≡ at
  front_at = length-take-le at es (omega (arith, m.whole, m.in_list))

  joined : with_run before (get_or es at 0) es ≡ take at es ++ turned before (drop (at + 1) es)
  joined =
      let last = get_or es at 0 in
      let here : at < length es = omega (arith, m.whole, m.in_list) in
      let split : es ≡ take at es ++ (last ∷ drop (at + 1) es) =
      sym (take-append-drop at es) ∙ ap (λ (t : List ℕ). take at es ++ t) (at_drop es at here) in
      let past-last : over last (take at es) ≡ true =
      over-take last at es (omega arith) (λ (i : ℕ) (lt : i < at). falls-strictly (most_number + 1) es i at m.falls lt (omega (arith, m.in_order))) in
      let past-before : over before (take at es) ≡ true =
      over-take before at es (omega arith) (λ (i : ℕ) (lt : i < at). omega (arith, m.in_order, falls-far (most_number + 1) es i at m.falls (omega arith))) in
      let turned-last : turned last es ≡ take at es ++ drop (at + 1) es =
      ap (λ (t : List ℕ). turned last t) split ∙ turn-past last (take at es) (last ∷ drop (at + 1) es) past-last ∙ ap (λ (t : List ℕ). take at es ++ t) (turn-out last (drop (at + 1) es)) in
      ap (λ (t : List ℕ). turned before t) turned-last ∙ turn-past before (take at es) (drop (at + 1) es) past-before

  pub room-to-close : RoomAt at es
  room-to-close = record { whole = m.whole; falls = m.falls; two-places = omega (arith, m.in_list) }

  -- they are all of it: its two ends go
  pub taken-closes : (left : List ℕ) → get_or es (at + 1) 0 ≡ before → left ≡ take at es ++ (drop (at + 2) es ++ (0 ∷ 0 ∷ []))
      → (Ok Arrival.New ≡ taken_answer (with_run before (get_or es at 0) es)) × (left ≡ taken_ends (with_run before (get_or es at 0) es) es)
  taken-closes left lo is-left =
      let more = take at es ++ drop (at + 2) es in
      let next : at + 1 + 1 ≡ at + 2 = omega arith in
      let is-more : with_run before (get_or es at 0) es ≡ more =
      joined ∙ ap (λ (t : List ℕ). take at es ++ t) (low-joins (at + 1) before (get_or es at 0) es m lo ∙ ap (λ (n : ℕ). drop n es) next) in
      let long : length more + 2 ≡ places = omega (arith, m.whole, m.in_list, front_at, length-append (take at es) (drop (at + 2) es), length-drop (at + 2) es) in
      rw is-more (taken-new more es left (few-runs more (omega arith)) (fitted_short more long ∙ append_assoc (take at es) (drop (at + 2) es) (0 ∷ 0 ∷ []) ∙ sym is-left))

  -- some are left: it ends lower
  pub taken-lowers : (get_or es (at + 1) 0 ≡ before → ⊥)
      → (Ok Arrival.New ≡ taken_answer (with_run before (get_or es at 0) es)) × (set es at before ≡ taken_ends (with_run before (get_or es at 0) es) es)
  taken-lowers lo =
      let more = take at es ++ (before ∷ drop (at + 1) es) in
      let is-more : with_run before (get_or es at 0) es ≡ more = joined ∙ ap (λ (t : List ℕ). take at es ++ t) (low-opens (at + 1) before (get_or es at 0) es m lo) in
      let long : length more ≡ places = omega (arith, m.whole, m.in_list, front_at, length-append (take at es) (before ∷ drop (at + 1) es), length-drop (at + 1) es) in
      rw is-more (taken-new more es (set es at before) (few-runs more (omega arith)) (fitted-same more long ∙ sym (set_split es at before (omega (arith, m.whole, m.in_list)) ∙ rw (add-one at) refl)))

  -- and so there is room
  pub taken-shortens : Ok Arrival.New ≡ taken_answer (with_run before (get_or es at 0) es)
  taken-shortens = go (eqb (get_or es (at + 1) 0) before) refl
    where
      go : (t : Bool) → eqb (get_or es (at + 1) 0) before ≡ t → Ok Arrival.New ≡ taken_answer (with_run before (get_or es at 0) es)
      go true p = (taken-closes (take at es ++ (drop (at + 2) es ++ (0 ∷ 0 ∷ []))) (eqb-true (get_or es (at + 1) 0) before p) refl).0
      go false p = (taken-lowers (eqb-false (get_or es (at + 1) 0) before p)).0

-- the numbers of a run that are the last ones of a missing stretch
pub at-its-end : (at before last : ℕ) (es : List ℕ) → NoneBetween at before last es → 0 < at → get_or es (at - 1) 0 ≡ last
    → NoneBetween (at - 1 + 1) before (get_or es (at - 1) 0) es
at-its-end at before last es m pos is =
    let q : at - 1 + 1 ≡ at = omega arith in
    rw (q, is) m
