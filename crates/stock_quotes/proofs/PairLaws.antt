-- Laws of pairs: numbers as pairs and back, the three parts of a frame's pairs, and the zeros behind a side's levels.
use Prim.Native.Nat.{ℕ, zero, suc, ◌+◌, ◌-◌, ◌*◌, ◌≤◌, ◌<◌}
use mathlib.Core.Path.{◌≡◌, refl, sym, ap, ap₂, ◌∙◌}
use mathlib.Core.Bool.{true}
use mathlib.Core.List.{List, [], ◌∷◌, ◌++◌, map}
use native.Mathlib.Omega.{arith}
use lib.ListN.{length, get_or, take, drop, replicate, length-append, length-drop, length-replicate, length-map, take-append-drop}
use lib.Seq.{take_at, drop_at, length-take-le, take_all}
use lib.Dec.{eqb}
use borrow.Author.Tests.{eqb-true}
use Rattle.amounts.specs.declared.Pair.{Pair}
use Rattle.digits.proofs.Bools.{and_left, and_right}
use Rattle.layout.specs.Cells.{Cell, raw, digits, size}
use Rattle.stock_quotes.specs.declared.Reveal.{Reveal}
use Rattle.stock_quotes.specs.Reveal.{revealed, side_room, pair_count}
use Rattle.stock_quotes.proofs.RevealLaws.{pairs_lt}
use Rattle.stock_quotes.specs.Quotes.{pair, no_pair, pairs_of, flat, padded, zero_pairs, pair_cells, six_cells, body_length}

-- ---- numbers as pairs
pub pairs_of-flat : (ps : List Pair) → pairs_of (flat ps) ≡ ps
pairs_of-flat [] = refl
pairs_of-flat (p ∷ ps) = ap (λ (l : List Pair). p ∷ l) (pairs_of-flat ps)

-- n cells of pairs hold two numbers each
pub length-pair_cells : (n : ℕ) → length (pair_cells n) ≡ 2 * n
unfolding pair_cells
length-pair_cells zero = refl
length-pair_cells (suc n) = omega (arith, length-pair_cells n)

-- a pair takes nine bytes, and what stands before the pairs nineteen
size-pair_cells : (n : ℕ) → size (pair_cells n) ≡ 9 * n
unfolding pair_cells
size-pair_cells zero = refl
size-pair_cells (suc n) = omega (arith, size-pair_cells n)

pub size-six : (n : ℕ) → size (six_cells n) ≡ 19 + 9 * n
size-six n = omega (arith, size-pair_cells n)

-- pairs and then more
pair-cells-append : (m n : ℕ) → pair_cells (m + n) ≡ pair_cells m ++ pair_cells n
unfolding pair_cells
pair-cells-append zero n = let e : zero + n ≡ n = omega arith in ap pair_cells e
pair-cells-append (suc m) n =
    let e : suc m + n ≡ suc (m + n) = omega arith in
    ap pair_cells e ∙ ap (λ (cs : List Cell). digits 9 ∷ digits 8 ∷ cs) (pair-cells-append m n)

pub six-cells-append : (m n : ℕ) → six_cells (m + n) ≡ six_cells m ++ pair_cells n
six-cells-append m n = ap (λ (cs : List Cell). raw ∷ raw ∷ raw ∷ raw ∷ raw ∷ raw ∷ digits 12 ∷ raw ∷ raw ∷ raw ∷ digits 8 ∷ cs) (pair-cells-append m n)

pub length-dictated : (r : Reveal) (reveal : ℕ) → r ≡ revealed reveal → 19 + 9 * pair_count r ≡ body_length reveal
length-dictated r reveal e = ap (λ (x : Reveal). 19 + 9 * pair_count x) e ∙ sym (size-six (pair_count (revealed reveal)))

pub length-small : (reveal : ℕ) → body_length reveal < 155
length-small reveal = omega (arith, size-six (pair_count (revealed reveal)), pairs_lt (revealed reveal) reveal refl)

-- an array of structs in a struct has its length, which its elements' own lists tell
pub length-mapped : (A B : Type 0) (f : A → B) (l : List A) (n : ℕ) → length (map f l) ≡ n → length l ≡ n
length-mapped A B f l n e = sym (length-map l f) ∙ e

pub flat-pairs_of : (k : ℕ) (vs : List ℕ) → length vs ≡ 2 * k → flat (pairs_of vs) ≡ vs
flat-pairs_of k [] h = refl
flat-pairs_of k (p ∷ []) h = absurd (omega arith)
flat-pairs_of k (p ∷ q ∷ vs) h = ap (λ (l : List ℕ). p ∷ q ∷ l) (flat-pairs_of (k - 1) vs (omega arith))

pub length-pairs_of : (k : ℕ) (vs : List ℕ) → length vs ≡ 2 * k → length (pairs_of vs) ≡ k
length-pairs_of k [] h = omega arith
length-pairs_of k (p ∷ []) h = absurd (omega arith)
length-pairs_of k (p ∷ q ∷ vs) h = omega (arith, length-pairs_of (k - 1) vs (omega arith))

-- ---- zeros
pub zero-pairs : (ps : List Pair) → zero_pairs ps ≡ true → ps ≡ replicate (length ps) no_pair
zero-pairs [] h = refl
zero-pairs (p ∷ ps) h =
    let a : p.price.0 ≡ 0 = sym (eqb-true 0 p.price.0 (and_left _ _ h)) in
    let r = and_right (eqb 0 p.price.0) _ h in
    let b : p.quantity.0 ≡ 0 = sym (eqb-true 0 p.quantity.0 (and_left _ _ r)) in
    ap₂ (λ (x y : ℕ). pair x y ∷ ps) a b ∙ ap (λ (l : List Pair). no_pair ∷ l) (zero-pairs ps (and_right (eqb 0 p.quantity.0) _ r))

pub zero-replicate : (n : ℕ) → zero_pairs (replicate n no_pair) ≡ true
zero-replicate zero = refl
zero-replicate (suc n) = zero-replicate n

-- ---- a side's levels and the zeros behind them
module _ (l : List Pair) (n : ℕ) (e : length l ≡ n) where
  pub take-padded : take n (padded l) ≡ l
  take-padded = take_at l (replicate (side_room - length l) no_pair) n e

  pub drop-padded : drop n (padded l) ≡ replicate (side_room - length l) no_pair
  drop-padded = drop_at l (replicate (side_room - length l) no_pair) n e

  pub length-padded : n ≤ side_room → length (padded l) ≡ side_room
  length-padded h = length-append l (replicate (side_room - length l) no_pair) ∙ omega (arith, length-replicate (side_room - length l) no_pair)

pub padded-take : (l : List Pair) (n : ℕ) → length l ≡ side_room → n ≤ side_room → zero_pairs (drop n l) ≡ true → padded (take n l) ≡ l
padded-take l n e h z =
    let t : length (take n l) ≡ n = length-take-le n l (omega arith) in
    let d : side_room - length (take n l) ≡ length (drop n l) = omega (arith, length-drop n l) in
    ap (λ (k : ℕ). take n l ++ replicate k no_pair) d ∙ ap (λ (m : List Pair). take n l ++ m) (sym (zero-pairs (drop n l) z)) ∙ take-append-drop n l

-- ---- a trade, of which there is one or none
module _ (n : ℕ) (one : n < 2) where
  pub trade-kept : (p : Pair) → zero_pairs (drop n (p ∷ [])) ≡ true → get_or (take n (p ∷ [])) 0 no_pair ≡ p
  trade-kept p z = go n one z
    where
      go : (k : ℕ) → k < 2 → zero_pairs (drop k (p ∷ [])) ≡ true → get_or (take k (p ∷ [])) 0 no_pair ≡ p
      go zero h z = sym (ap (λ (l : List Pair). get_or l 0 no_pair) (zero-pairs (p ∷ []) z))
      go (suc zero) h z = refl
      go (suc (suc k)) h z = absurd (omega arith)

  pub trade-zero : (ps : List Pair) → zero_pairs (drop n (get_or (take n ps) 0 no_pair ∷ [])) ≡ true
  trade-zero ps = go n one ps
    where
      go : (k : ℕ) → k < 2 → (qs : List Pair) → zero_pairs (drop k (get_or (take k qs) 0 no_pair ∷ [])) ≡ true
      go zero h qs = refl
      go (suc zero) h qs = refl
      go (suc (suc k)) h qs = absurd (omega arith)

  pub trade-part : (ps : List Pair) → n ≤ length ps → take n (get_or (take n ps) 0 no_pair ∷ []) ≡ take n ps
  trade-part ps l = go n one ps l
    where
      go : (k : ℕ) → k < 2 → (qs : List Pair) → k ≤ length qs → take k (get_or (take k qs) 0 no_pair ∷ []) ≡ take k qs
      go zero h qs l = refl
      go (suc zero) h [] l = absurd (omega arith)
      go (suc zero) h (q ∷ qs) l = refl
      go (suc (suc k)) h qs l = absurd (omega arith)

  pub length-trade : (p : Pair) → length (take n (p ∷ [])) ≡ n
  length-trade p = length-take-le n (p ∷ []) (omega arith)

-- ---- three parts one behind the other
module _ (t b a : ℕ) (ts bs cs : List Pair) (lt : length ts ≡ t) (lb : length bs ≡ b) (la : length cs ≡ a) where
  pub first_part : take t (ts ++ (bs ++ cs)) ≡ ts
  first_part = take_at ts (bs ++ cs) t lt

  pub second-part : take b (drop t (ts ++ (bs ++ cs))) ≡ bs
  second-part = ap (take b) (drop_at ts (bs ++ cs) t lt) ∙ take_at bs cs b lb

  pub third-part : take a (drop b (drop t (ts ++ (bs ++ cs)))) ≡ cs
  third-part = ap (λ (l : List Pair). take a (drop b l)) (drop_at ts (bs ++ cs) t lt) ∙ ap (take a) (drop_at bs cs b lb) ∙ take_all a cs (omega arith)

pub three-parts : (t b a : ℕ) (ps : List Pair) → length ps ≡ t + (b + a) → take t ps ++ (take b (drop t ps) ++ take a (drop b (drop t ps))) ≡ ps
three-parts t b a ps h =
    let e : take a (drop b (drop t ps)) ≡ drop b (drop t ps) =
    take_all a (drop b (drop t ps)) (omega (arith, length-drop b (drop t ps), length-drop t ps)) in
    ap (λ (l : List Pair). take t ps ++ (take b (drop t ps) ++ l)) e
    ∙ ap (λ (l : List Pair). take t ps ++ l) (take-append-drop b (drop t ps))
    ∙ take-append-drop t ps
