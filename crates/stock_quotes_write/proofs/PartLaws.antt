-- Pairs written: a part's test says that its used pairs fit and its unused ones are zero, and pairs go one behind another.
use Prim.Native.Nat.{ℕ, zero, suc, ◌+◌, ◌-◌, ◌*◌, ◌^◌, ◌≤◌, ◌<◌}
use mathlib.Core.Path.{◌≡◌, refl, sym, ap, ap₂, ◌∙◌}
use mathlib.Core.Bool.{Bool, true, false, ◌&&◌, and_assoc, and-true}
use mathlib.Core.List.{List, [], ◌∷◌, ◌++◌, append_assoc, append-nil}
use native.Mathlib.Numerals.{add-one}
use native.Mathlib.Omega.{arith}
use lib.ListN.{length, get_or, take, drop, length-append, drop_of_length-le}
use lib.Seq.{sets, take-suc, drop-cons, length-take-le}
use lib.Dec.{eqb, leb, ltb}
use borrow.Author.Tests.{eq-eqb, ne_eqb, eqb-true, eqb-false, leb-true, leb-false, lt-ltb, le-ltb, ltb-true, ltb-false}
use Rattle.digits.specs.Packed.{packed}
use Rattle.digits.specs.Fields.{put_at}
use Rattle.amounts.specs.declared.Pair.{Pair}
use Rattle.digits.proofs.Bools.{and_left, and_right}
use Rattle.digits.proofs.PackedLaws.{length-packed}
use Rattle.layout.specs.Cells.{fits, encode}
use Rattle.layout.proofs.PutLaws.{put-digits}
use Rattle.stock_quotes.specs.Quotes.{no_pair, pair_cells, flat, zero_pairs}
use Rattle.stock_quotes_write.specs.Steps.{pair_right, part_right}

-- ---- the test of a pair
-- at most b is below the number after it
pub below : (b q : ℕ) → leb q b ≡ ltb q (b + 1)
below b q = go (leb q b) refl
  where
    go : (t : Bool) → leb q b ≡ t → t ≡ ltb q (b + 1)
    go true e = sym (lt-ltb q (b + 1) (omega (arith, leb-true q b e)))
    go false e = sym (le-ltb q (b + 1) (omega (arith, leb-false q b e)))

is_zero : (q : ℕ) → eqb q 0 ≡ eqb 0 q
is_zero q = go (eqb q 0) refl
  where
    go : (t : Bool) → eqb q 0 ≡ t → t ≡ eqb 0 q
    go true e = sym (eq-eqb 0 q (sym (eqb-true q 0 e)))
    go false e = sym (ne_eqb 0 q (λ z. eqb-false q 0 e (sym z)))

module _ (p : Pair) (used : Bool) where
  pub price-over : used ≡ true → 999999999 < p.price.0 → false ≡ pair_right used p
  price-over u h = rw (u, le-ltb p.price.0 (10 ^ 9) (omega arith))

  pub quantity-over : used ≡ true → p.price.0 ≤ 999999999 → leb p.quantity.0 99999999 ≡ pair_right used p
  quantity-over u h = rw (u, lt-ltb p.price.0 (10 ^ 9) (omega arith)) (below 99999999 p.quantity.0)

  pub price-used : used ≡ false → (p.price.0 ≡ 0 → ⊥) → false ≡ pair_right used p
  price-used u h = rw (u, ne_eqb 0 p.price.0 (λ e. h (sym e)))

  pub quantity-unused : used ≡ false → p.price.0 ≡ 0 → eqb p.quantity.0 0 ≡ pair_right used p
  quantity-unused u h = rw (u, eq-eqb 0 p.price.0 (sym h)) (is_zero p.quantity.0)

-- ---- the test of a part
unused-right : (ps : List Pair) → part_right 0 ps ≡ zero_pairs ps
unused-right [] = refl
unused-right (p ∷ ps) =
    ap (λ (t : Bool). pair_right false p && t) (unused-right ps)
    ∙ and_assoc (eqb 0 p.price.0) (eqb 0 p.quantity.0) (zero_pairs ps)

pub part_right_lem : (n : ℕ) (ps : List Pair) → n ≤ length ps → part_right n ps ≡ fits (pair_cells n) (flat (take n ps)) && zero_pairs (drop n ps)
unfolding pair_cells
part_right_lem zero ps h = unused-right ps
part_right_lem (suc n) [] h = absurd (omega arith)
part_right_lem (suc n) (p ∷ ps) h =
    let a = ltb p.price.0 (10 ^ 9) in
    let b = ltb p.quantity.0 (10 ^ 8) in
    let f = fits (pair_cells n) (flat (take n ps)) in
    let z = zero_pairs (drop n ps) in
    ap (λ (t : Bool). (a && b) && t) (part_right_lem n ps (omega arith))
    ∙ sym (and_assoc (a && b) f z)
    ∙ ap (λ (t : Bool). t && z) (and_assoc a b f)

-- a part's first pair, and what is left behind it
part-first : (n : ℕ) (p : Pair) (ps : List Pair) → part_right n (p ∷ ps) ≡ pair_right (ltb 0 n) p && part_right (n - 1) ps
part-first zero p ps = refl
part-first (suc n) p ps =
    let e : n ≡ suc n - 1 = omega arith in
    ap₂ (λ (t : Bool) (k : ℕ). pair_right t p && part_right k ps) (sym (lt-ltb 0 (suc n) (omega arith))) e

-- a part of one pair
pub part-one : (n : ℕ) (p : Pair) → pair_right (ltb 0 n) p ≡ part_right n (p ∷ [])
part-one n p = sym (part-first n p [] ∙ and-true (pair_right (ltb 0 n) p))

pub part-starts : (n : ℕ) (ps : List Pair) → part_right (n - 0) (drop 0 ps) ≡ part_right n ps
part-starts n ps = let e : n - 0 ≡ n = omega arith in ap (λ (k : ℕ). part_right k ps) e

module _ (n : ℕ) (ps : List Pair) (i : ℕ) where
  used-here : ltb 0 (n - i) ≡ ltb i n
  used-here = go (ltb i n) refl
    where
      go : (t : Bool) → ltb i n ≡ t → ltb 0 (n - i) ≡ t
      go true e = lt-ltb 0 (n - i) (omega (arith, ltb-true i n e))
      go false e = le-ltb 0 (n - i) (omega (arith, ltb-false i n e))

  part-turns : i < length ps → part_right (n - i) (drop i ps) ≡ pair_right (ltb i n) (get_or ps i no_pair) && part_right (n - (i + 1)) (drop (i + 1) ps)
  part-turns h =
      let e : n - i - 1 ≡ n - (i + 1) = omega arith in
      ap (part_right (n - i)) (drop-cons ps i no_pair h ∙ ap (λ (k : ℕ). get_or ps i no_pair ∷ drop k ps) (sym (add-one i)))
      ∙ part-first (n - i) (get_or ps i no_pair) (drop (i + 1) ps)
      ∙ ap₂ (λ (t : Bool) (k : ℕ). pair_right t (get_or ps i no_pair) && part_right k (drop (i + 1) ps)) used-here e

  module _ (h : i < length ps) where
    pub part-fails : pair_right (ltb i n) (get_or ps i no_pair) ≡ false → part_right (n - i) (drop i ps) ≡ false
    part-fails e = part-turns h ∙ ap (λ (t : Bool). t && part_right (n - (i + 1)) (drop (i + 1) ps)) e

    pub part-passes : pair_right (ltb i n) (get_or ps i no_pair) ≡ true → part_right (n - i) (drop i ps) ≡ part_right (n - (i + 1)) (drop (i + 1) ps)
    part-passes e = part-turns h ∙ ap (λ (t : Bool). t && part_right (n - (i + 1)) (drop (i + 1) ps)) e

  pub part-ends : length ps ≤ i → part_right (n - i) (drop i ps) ≡ true
  part-ends h = ap (part_right (n - i)) (drop_of_length-le ps h)

-- ---- some pairs, and some more behind them
pub fits-append : (m n : ℕ) (ps qs : List Pair) → length ps ≡ m
    → fits (pair_cells (m + n)) (flat (ps ++ qs)) ≡ fits (pair_cells m) (flat ps) && fits (pair_cells n) (flat qs)
unfolding pair_cells
fits-append zero n [] qs h = let e : zero + n ≡ n = omega arith in ap (λ (k : ℕ). fits (pair_cells k) (flat qs)) e
fits-append zero n (p ∷ ps) qs h = absurd (omega arith)
fits-append (suc m) n [] qs h = absurd (omega arith)
fits-append (suc m) n (p ∷ ps) qs h =
    let e : suc m + n ≡ suc (m + n) = omega arith in
    let a = ltb p.price.0 (10 ^ 9) in
    let b = ltb p.quantity.0 (10 ^ 8) in
    let f = fits (pair_cells m) (flat ps) in
    let g = fits (pair_cells n) (flat qs) in
    ap (λ (k : ℕ). fits (pair_cells k) (flat (p ∷ ps ++ qs))) e
    ∙ ap (λ (t : Bool). a && (b && t)) (fits-append m n ps qs (omega arith))
    ∙ sym (and_assoc a (b && f) g ∙ ap (λ (t : Bool). a && t) (and_assoc b f g))

pub encode-more : (m n : ℕ) (ps qs : List Pair) → length ps ≡ m
    → encode (pair_cells (m + n)) (flat (ps ++ qs)) ≡ encode (pair_cells m) (flat ps) ++ encode (pair_cells n) (flat qs)
unfolding pair_cells
encode-more zero n [] qs h = let e : zero + n ≡ n = omega arith in ap (λ (k : ℕ). encode (pair_cells k) (flat qs)) e
encode-more zero n (p ∷ ps) qs h = absurd (omega arith)
encode-more (suc m) n [] qs h = absurd (omega arith)
encode-more (suc m) n (p ∷ ps) qs h =
    let e : suc m + n ≡ suc (m + n) = omega arith in
    let a = packed 5 p.price.0 in
    let b = packed 4 p.quantity.0 in
    let f = encode (pair_cells m) (flat ps) in
    let g = encode (pair_cells n) (flat qs) in
    ap (λ (k : ℕ). encode (pair_cells k) (flat (p ∷ ps ++ qs))) e
    ∙ ap (λ (l : List ℕ). a ++ (b ++ l)) (encode-more m n ps qs (omega arith))
    ∙ sym (append_assoc a (b ++ f) g ∙ ap (λ (l : List ℕ). a ++ l) (append_assoc b f g))

pub length_pairs : (n : ℕ) (ps : List Pair) → length ps ≡ n → length (encode (pair_cells n) (flat ps)) ≡ 9 * n
unfolding pair_cells
length_pairs zero ps h = refl
length_pairs (suc n) [] h = absurd (omega arith)
length_pairs (suc n) (p ∷ ps) h =
    let a = packed 5 p.price.0 in
    let b = packed 4 p.quantity.0 in
    let f = encode (pair_cells n) (flat ps) in
    length-append a (b ++ f)
    ∙ omega (arith, length-append b f, length-packed 5 p.price.0, length-packed 4 p.quantity.0, length_pairs n ps (omega arith))

-- a pair among those that fit
pub pair_fits : (n : ℕ) (ps : List Pair) (i : ℕ) → i < n → n ≤ length ps → fits (pair_cells n) (flat (take n ps)) ≡ true
    → ((get_or ps i no_pair).price.0 < 10 ^ 9) × ((get_or ps i no_pair).quantity.0 < 10 ^ 8)
unfolding pair_cells
pair_fits zero ps i h l f = absurd (omega arith)
pair_fits (suc n) [] i h l f = absurd (omega arith)
pair_fits (suc n) (p ∷ ps) zero h l f =
    (ltb-true p.price.0 (10 ^ 9) (and_left _ _ f), ltb-true p.quantity.0 (10 ^ 8) (and_left _ _ (and_right (ltb p.price.0 (10 ^ 9)) _ f)))
pair_fits (suc n) (p ∷ ps) (suc i) h l f =
    pair_fits n ps i (omega arith) (omega arith) (and_right (ltb p.quantity.0 (10 ^ 8)) _ (and_right (ltb p.price.0 (10 ^ 9)) _ f))

-- one pair more
one_more : (ps : List Pair) (i : ℕ) → i < length ps
    → encode (pair_cells (i + 1)) (flat (take (i + 1) ps))
    ≡ (encode (pair_cells i) (flat (take i ps)) ++ packed 5 (get_or ps i no_pair).price.0) ++ packed 4 (get_or ps i no_pair).quantity.0
unfolding pair_cells
one_more ps i h =
    let p = get_or ps i no_pair in
    let a = packed 5 p.price.0 in
    let b = packed 4 p.quantity.0 in
    let l : length (take i ps) ≡ i = length-take-le i ps (omega arith) in
    ap (λ (q : List Pair). encode (pair_cells (i + 1)) (flat q)) (ap (λ (k : ℕ). take k ps) (add-one i) ∙ take-suc ps i no_pair h)
    ∙ encode-more i 1 (take i ps) (p ∷ []) l
    ∙ ap (λ (x : List ℕ). encode (pair_cells i) (flat (take i ps)) ++ (a ++ x)) (append-nil b)
    ∙ sym (append_assoc (encode (pair_cells i) (flat (take i ps))) a b)

pub pairs_start : (ps : List Pair) (buf : List ℕ) (at : ℕ) → buf ≡ sets buf at (encode (pair_cells 0) (flat (take 0 ps)))
unfolding pair_cells
pairs_start ps buf at = refl

-- ---- a pair put behind those before it: the code's two stores
module _ (ps : List Pair) (n : ℕ) (few : n ≤ length ps) (f : fits (pair_cells n) (flat (take n ps)) ≡ true)
    (buf : List ℕ) (at : ℕ) (room : at + 9 * n ≤ length buf) where
  pub pairs-turn : (i : ℕ) → i < n → (b b₁ b₂ : List ℕ) → b ≡ sets buf at (encode (pair_cells i) (flat (take i ps)))
      → b₁ ≡ put_at (get_or ps i no_pair).price.0 5 b (at + 9 * i) → b₂ ≡ put_at (get_or ps i no_pair).quantity.0 4 b₁ (at + 9 * i + 5)
      → b₂ ≡ sets buf at (encode (pair_cells (i + 1)) (flat (take (i + 1) ps)))
  pairs-turn i h b b₁ b₂ so q₁ q₂ =
      let p = get_or ps i no_pair in
      let g = pair_fits n ps i h few f in
      let vs = encode (pair_cells i) (flat (take i ps)) in
      let l : length vs ≡ 9 * i = length_pairs i (take i ps) (length-take-le i ps (omega arith)) in
      let p₁ : b₁ ≡ sets buf at (vs ++ packed 5 p.price.0) =
      q₁ ∙ put-digits vs buf b at (at + 9 * i) so (omega arith) 9 p.price.0 (omega arith) (omega arith) g.0 in
      let k : at + length (vs ++ packed 5 p.price.0) ≡ at + 9 * i + 5 =
      omega (arith, length-append vs (packed 5 p.price.0), length-packed 5 p.price.0) in
      q₂ ∙ put-digits (vs ++ packed 5 p.price.0) buf b₁ at (at + 9 * i + 5) p₁ k 8 p.quantity.0 (omega arith) (omega arith) g.1
      ∙ ap (sets buf at) (sym (one_more ps i (omega arith)))
