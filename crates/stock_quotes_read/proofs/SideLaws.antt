-- A side read pair by pair: what is left to read after i pairs, and what one pair more does.
use Rattle.std.specs.Prelude.{None, Some}
use Prim.Native.Nat.{ℕ, zero, suc, ◌+◌, ◌-◌, ◌*◌, ◌≤◌, ◌<◌}
use mathlib.Core.Path.{◌≡◌, refl, sym, ap, ap₂, ◌∙◌}
use mathlib.Core.Bool.{Bool, true, false, cond, ◌&&◌, and_assoc}
use mathlib.Core.List.{List, [], ◌∷◌, ◌++◌, append_assoc}
use native.Mathlib.Numerals.{add-one}
use native.Mathlib.Omega.{arith}
use lib.ListN.{length, take, drop, set, replicate, length-set, length-drop, take-append-drop}
use lib.Seq.{drop-drop, take-take, take-add, drop_at, length-take-le, take-suc-set, drop-set-lt}
use Rattle.digits.specs.Packed.{good_field, value}
use Rattle.amounts.specs.Amounts.{pair_of, pair_at}
use Rattle.amounts.specs.declared.Pair.{Pair}
use Rattle.digits.proofs.Places.{inside}
use Rattle.layout.specs.Cells.{good_cells}
use Rattle.stock_quotes.specs.Reveal.{side_room}
use Rattle.stock_quotes.specs.Quotes.{pair, no_pair, pair_cells, pairs_in, padded}

-- the end of a part
drop-take : (m n : ℕ) (l : List ℕ) → m ≤ length l → drop m (take (m + n) l) ≡ take n (drop m l)
drop-take m n l h = ap (drop m) (take-add m n l) ∙ drop_at (take m l) (take n (drop m l)) m (length-take-le m l h)

-- the digits of a pair are good, and the pair
abbrev pub good_pair : List ℕ → Bool
good_pair x = good_field 9 (take 5 x) && good_field 8 (take 4 (drop 5 x))

abbrev pub pair_in : List ℕ → Pair
pair_in x = pair (value (take 5 x)) (value (take 4 (drop 5 x)))

-- ---- one pair in a part of the body
module _ (b : List ℕ) (at : ℕ) (h : at + 9 ≤ length b) where
  -- the part that a pair takes
  abbrev pair_part : List ℕ
  pair_part = take (at + 9 - at) (drop at b)

  part-is : take 9 (drop at b) ≡ pair_part
  part-is = let e : 9 ≡ at + 9 - at = omega arith in ap (λ (n : ℕ). take n (drop at b)) e

  at_place : pair_at pair_part 0 ≡ cond (good_pair (drop at b)) (Some (pair_in (drop at b))) None
  at_place =
      let x = drop at b in
      let long : 9 ≤ length x = rw length-drop (omega arith) in
      let nine : length (take 9 x) ≡ 9 = length-take-le 9 x long in
      let five : take 5 (take 9 (take 9 x)) ≡ take 5 x = take-take 5 9 (take 9 x) (omega arith) ∙ take-take 5 9 x (omega arith) in
      let four : drop 5 (take 9 (take 9 x)) ≡ take 4 (drop 5 x) = ap (drop 5) (take-take 9 9 x (omega arith)) ∙ drop-take 5 4 x (omega arith) in
      ap (λ (l : List ℕ). pair_at l 0) (sym part-is)
      ∙ inside 9 0 (take 9 x) (pair_of (take 9 (take 9 x))) None (omega arith)
      ∙ ap₂ (λ (p q : List ℕ). cond (good_field 9 p && good_field 8 q) (Some (pair (value p) (value q))) None) five four

  pub pair-good : (p : Pair) → pair_at pair_part 0 ≡ Some p → (good_pair (drop at b) ≡ true) × (p ≡ pair_in (drop at b))
  pair-good p e = go (good_pair (drop at b)) (sym at_place ∙ e)
    where
      go : (t : Bool) → cond t (Some (pair_in (drop at b))) None ≡ Some p → (t ≡ true) × (p ≡ pair_in (drop at b))
      go true q = (refl, cc)
      go false q = (cc, cc)

  pub pair-bad : pair_at pair_part 0 ≡ None → good_pair (drop at b) ≡ false
  pair-bad e = go (good_pair (drop at b)) (sym at_place ∙ e)
    where
      go : (t : Bool) → cond t (Some (pair_in (drop at b))) None ≡ None → t ≡ false
      go true q = cc
      go false q = refl

-- ---- some pairs, and some more behind them
module _ (x : List ℕ) where
  pub good-suc : (n : ℕ) → good_cells (pair_cells (suc n)) x ≡ good_pair x && good_cells (pair_cells n) (drop 9 x)
  unfolding pair_cells
  good-suc n =
      ap (λ (l : List ℕ). good_field 9 (take 5 x) && (good_field 8 (take 4 (drop 5 x)) && good_cells (pair_cells n) l)) (drop-drop 4 5 x)
      ∙ sym (and_assoc (good_field 9 (take 5 x)) (good_field 8 (take 4 (drop 5 x))) (good_cells (pair_cells n) (drop 9 x)))

  pub pairs-suc : (n : ℕ) → pairs_in (suc n) x ≡ pair_in x ∷ pairs_in n (drop 9 x)
  unfolding pair_cells
  pairs-suc n = ap (λ (l : List ℕ). pair_in x ∷ pairs_in n l) (drop-drop 4 5 x)

pub good-append : (m n : ℕ) (x : List ℕ) → good_cells (pair_cells (m + n)) x ≡ good_cells (pair_cells m) x && good_cells (pair_cells n) (drop (9 * m) x)
unfolding pair_cells
good-append zero n x = let e : zero + n ≡ n = omega arith in ap (λ (k : ℕ). good_cells (pair_cells k) x) e
good-append (suc m) n x =
    let e : suc m + n ≡ suc (m + n) = omega arith in
    let f : 9 + 9 * m ≡ 9 * suc m = omega arith in
    ap (λ (k : ℕ). good_cells (pair_cells k) x) e ∙ good-suc x (m + n)
    ∙ ap (λ (t : Bool). good_pair x && t) (good-append m n (drop 9 x) ∙ ap (λ (l : List ℕ). good_cells (pair_cells m) (drop 9 x) && good_cells (pair_cells n) l) (drop-drop (9 * m) 9 x ∙ ap (λ (k : ℕ). drop k x) f))
    ∙ sym (and_assoc (good_pair x) (good_cells (pair_cells m) (drop 9 x)) (good_cells (pair_cells n) (drop (9 * suc m) x)))
    ∙ ap (λ (t : Bool). t && good_cells (pair_cells n) (drop (9 * suc m) x)) (sym (good-suc x m))

pub pairs-append : (m n : ℕ) (x : List ℕ) → pairs_in (m + n) x ≡ pairs_in m x ++ pairs_in n (drop (9 * m) x)
unfolding pair_cells
pairs-append zero n x = let e : zero + n ≡ n = omega arith in ap (λ (k : ℕ). pairs_in k x) e
pairs-append (suc m) n x =
    let e : suc m + n ≡ suc (m + n) = omega arith in
    let f : 9 + 9 * m ≡ 9 * suc m = omega arith in
    ap (λ (k : ℕ). pairs_in k x) e ∙ pairs-suc x (m + n)
    ∙ ap (λ (l : List Pair). pair_in x ∷ l) (pairs-append m n (drop 9 x) ∙ ap (λ (l : List ℕ). pairs_in m (drop 9 x) ++ pairs_in n l) (drop-drop (9 * m) 9 x ∙ ap (λ (k : ℕ). drop k x) f))
    ∙ ap (λ (l : List Pair). l ++ pairs_in n (drop (9 * suc m) x)) (sym (pairs-suc x m))

-- ---- the loop
pub record SideSoFar (b : List ℕ) (at count : ℕ) (pairs : List Pair) (i : ℕ) : Type 0 where
  pub few : i ≤ count
  pub room : length pairs ≡ side_room
  pub good_left : good_cells (pair_cells (count - i)) (drop (at + 9 * i) b) ≡ good_cells (pair_cells count) (drop at b)
  pub pairs-left : take i pairs ++ pairs_in (count - i) (drop (at + 9 * i) b) ≡ pairs_in count (drop at b)
  pub zeros-left : drop i pairs ≡ replicate (side_room - i) no_pair

pub side-starts : (b : List ℕ) (at count : ℕ) → SideSoFar b at count (replicate side_room no_pair) 0
side-starts b at count =
    let e : at + 9 * 0 ≡ at = omega arith in
    let f : count - 0 ≡ count = omega arith in
    record {
      few = omega arith;
      room = refl;
      good_left = ap₂ (λ (k a : ℕ). good_cells (pair_cells k) (drop a b)) f e;
      pairs-left = ap₂ (λ (k a : ℕ). pairs_in k (drop a b)) f e;
      zeros-left = refl;
    }

drop-replicate : (n : ℕ) (p : Pair) → drop 1 (replicate n p) ≡ replicate (n - 1) p
drop-replicate zero p = refl
drop-replicate (suc n) p = let e : n ≡ suc n - 1 = omega arith in ap (λ (k : ℕ). replicate k p) e

module _ (b : List ℕ) (at count : ℕ) (pairs : List Pair) (i : ℕ) (s : SideSoFar b at count pairs i) (more : i < count) where
  one_less : count - i ≡ suc (count - (i + 1))
  one_less = omega arith

  nine-on : drop 9 (drop (at + 9 * i) b) ≡ drop (at + 9 * (i + 1)) b
  nine-on = let e : at + 9 * i + 9 ≡ at + 9 * (i + 1) = omega arith in drop-drop 9 (at + 9 * i) b ∙ ap (λ (k : ℕ). drop k b) e

  good-next : good_cells (pair_cells (count - i)) (drop (at + 9 * i) b)
      ≡ good_pair (drop (at + 9 * i) b) && good_cells (pair_cells (count - (i + 1))) (drop (at + 9 * (i + 1)) b)
  good-next =
      ap (λ (k : ℕ). good_cells (pair_cells k) (drop (at + 9 * i) b)) one_less ∙ good-suc (drop (at + 9 * i) b) (count - (i + 1))
      ∙ ap (λ (l : List ℕ). good_pair (drop (at + 9 * i) b) && good_cells (pair_cells (count - (i + 1))) l) nine-on

  pairs_next : pairs_in (count - i) (drop (at + 9 * i) b)
      ≡ pair_in (drop (at + 9 * i) b) ∷ pairs_in (count - (i + 1)) (drop (at + 9 * (i + 1)) b)
  pairs_next =
      ap (λ (k : ℕ). pairs_in k (drop (at + 9 * i) b)) one_less ∙ pairs-suc (drop (at + 9 * i) b) (count - (i + 1))
      ∙ ap (λ (l : List ℕ). pair_in (drop (at + 9 * i) b) ∷ pairs_in (count - (i + 1)) l) nine-on

  pub side-bad : good_pair (drop (at + 9 * i) b) ≡ false → false ≡ good_cells (pair_cells count) (drop at b)
  side-bad e = sym (ap (λ (t : Bool). t && good_cells (pair_cells (count - (i + 1))) (drop (at + 9 * (i + 1)) b)) e) ∙ sym good-next ∙ s.good_left

  pub side-turn : (p : Pair) → count ≤ side_room → good_pair (drop (at + 9 * i) b) ≡ true → p ≡ pair_in (drop (at + 9 * i) b)
      → SideSoFar b at count (set pairs i p) (i + 1)
  side-turn p c g e =
      let within : i < length pairs = omega (arith, s.room) in
      let fewer : side_room - i - 1 ≡ side_room - (i + 1) = omega arith in
      record {
        few = omega arith;
        room = length-set pairs i p ∙ s.room;
        good_left =
            sym (ap (λ (t : Bool). t && good_cells (pair_cells (count - (i + 1))) (drop (at + 9 * (i + 1)) b)) g) ∙ sym good-next ∙ s.good_left;
        pairs-left =
            ap (λ (k : ℕ). take k (set pairs i p) ++ pairs_in (count - (i + 1)) (drop (at + 9 * (i + 1)) b)) (add-one i)
            ∙ ap (λ (l : List Pair). l ++ pairs_in (count - (i + 1)) (drop (at + 9 * (i + 1)) b)) (take-suc-set pairs i p within)
            ∙ append_assoc (take i pairs) (p ∷ []) (pairs_in (count - (i + 1)) (drop (at + 9 * (i + 1)) b))
            ∙ ap (λ (q : Pair). take i pairs ++ (q ∷ pairs_in (count - (i + 1)) (drop (at + 9 * (i + 1)) b))) e
            ∙ ap (λ (l : List Pair). take i pairs ++ l) (sym pairs_next)
            ∙ s.pairs-left;
        zeros-left =
            drop-set-lt (i + 1) pairs i p (omega arith) ∙ sym (drop-drop 1 i pairs) ∙ ap (drop 1) s.zeros-left
            ∙ drop-replicate (side_room - i) no_pair ∙ ap (λ (k : ℕ). replicate k no_pair) fewer;
      }

pub side-ends : (b : List ℕ) (at count : ℕ) (pairs : List Pair) (i : ℕ) → SideSoFar b at count pairs i → count ≤ i → count ≤ side_room
    → (true ≡ good_cells (pair_cells count) (drop at b)) × (pairs ≡ padded (pairs_in count (drop at b)))
unfolding pair_cells
side-ends b at count pairs i s h few =
    let none : count - i ≡ 0 = omega arith in
    let all : take i pairs ≡ pairs_in count (drop at b) =
    sym (mathlib.Core.List.append-nil (take i pairs)) ∙ ap (λ (k : ℕ). take i pairs ++ pairs_in k (drop (at + 9 * i) b)) (sym none) ∙ s.pairs-left in
    let long : length (pairs_in count (drop at b)) ≡ i = ap length (sym all) ∙ length-take-le i pairs (omega (arith, s.room, s.few)) in (
      ap (λ (k : ℕ). good_cells (pair_cells k) (drop (at + 9 * i) b)) (sym none) ∙ s.good_left,
      sym (take-append-drop i pairs) ∙ ap₂ ◌++◌ all (s.zeros-left ∙ ap (λ (k : ℕ). replicate (side_room - k) no_pair) (sym long)),
    )
