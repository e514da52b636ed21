-- Texts put one after the other are one text.
use Prim.Native.Nat.{ℕ, zero, suc, ◌+◌, ◌-◌, ◌/◌, ◌≤◌, ◌<◌, max, min}
use mathlib.Core.Path.{◌≡◌, refl, sym, ap, ◌∙◌, subst}
use mathlib.Core.Bool.{Bool, true, false, cond}
use mathlib.Core.List.{List, [], ◌∷◌, ◌++◌, append_assoc, append-nil}
use native.Mathlib.Omega.{arith}
use native.Mathlib.Numerals.{add-one}
use borrow.Rule.Slice.PartMut.{put_mid}
use Rattle.std.proofs.lemmas.Slice.{put_mid-paste}
use lib.ListN.{take-append-drop, drop_of_length-le, length-drop, length, set, take, drop, length-set, length-append}
use lib.Seq.{sets, sets-eq, length-sets, length-take-le, take_all, set_out, drop-cons, drop-set-lt, get_or-set_same}
use lib.Dec.{leb}
use borrow.Author.Tests.{lt-leb, leb-true, leb-false}
use Rattle.printing.specs.Text.{behind, Puts, last_digit, decimal_by}

-- ---- stores
-- where there is no room nothing is put
sets-out : (text : List ℕ) (at : ℕ) (out : List ℕ) → length out ≤ at → sets out at text ≡ out
sets-out [] at out h = refl
sets-out (b ∷ bs) at out h = ap (λ (l : List ℕ). sets l (suc at) bs) (set_out out at b h) ∙ sets-out bs (suc at) out (omega arith)

sets-append : (text more : List ℕ) (at : ℕ) (out : List ℕ) → sets out at (text ++ more) ≡ sets (sets out at text) (at + length text) more
sets-append [] more at out = let e : at ≡ at + 0 = omega arith in ap (λ (x : ℕ). sets out x more) e
sets-append (b ∷ bs) more at out =
    let e : suc at + length bs ≡ at + length (b ∷ bs) = omega arith in
    sets-append bs more (suc at) (set out at b) ∙ ap (λ (x : ℕ). sets (sets (set out at b) (suc at) bs) x more) e

-- a text put where the place before it was cut off, past the end, is the text put at the place itself
sets-cut : (more : List ℕ) (at : ℕ) (out : List ℕ) (to : ℕ) → (at < length out → to ≡ at) → (length out ≤ at → length out ≤ to) → sets out to more ≡ sets out at more
sets-cut more at out to h k = go (leb (length out) at) refl
  where
    go : (b : Bool) → leb (length out) at ≡ b → sets out to more ≡ sets out at more
    go true e = let n = leb-true (length out) at e in sets-out more to out (k n) ∙ sym (sets-out more at out n)
    go false e = ap (λ (x : ℕ). sets out x more) (h (leb-false (length out) at e))

-- the byte at a store's place
drop-set : (l : List ℕ) (i a : ℕ) → i < length l → drop i (set l i a) ≡ a ∷ drop (i + 1) l
drop-set l i a h =
    rw add-one (drop-cons (set l i a) i 0 (omega (arith, length-set l i a)))
    ∙ (λ j. get_or-set_same l i a 0 h j ∷ drop-set-lt (i + 1) l i a (omega arith) j)

-- places, one behind the other
behind-behind : (at a b n r : ℕ) → r ≡ behind at a n → behind r b n ≡ behind at (a + b) n
behind-behind at a b n r e = go (leb n at) (leb (at + a) n) refl refl
  where
    past : n ≤ at → r ≡ at → max r (min (r + b) n) ≡ max at (min (at + (a + b)) n)
    past h p = omega arith

    room : at + a ≤ n → r ≡ at + a → max r (min (r + b) n) ≡ max at (min (at + (a + b)) n)
    room h p = omega arith

    full : at < n → n ≤ at + a → r ≡ n → max r (min (r + b) n) ≡ max at (min (at + (a + b)) n)
    full h k p = omega arith

    go : (x y : Bool) → leb n at ≡ x → leb (at + a) n ≡ y → max r (min (r + b) n) ≡ max at (min (at + (a + b)) n)
    go true y p q = let h = leb-true n at p in past h (e ∙ omega (arith, h))
    go false true p q = let h = leb-true (at + a) n q in room h (e ∙ omega (arith, h))
    go false false p q =
        let h = leb-false n at p in
        let k = leb-false (at + a) n q in
        full h (omega (arith, k)) (e ∙ omega (arith, h, k))

-- a text and then another
pub puts_then : (text more : List ℕ) (at r q : ℕ) (out mid after : List ℕ) → Puts text at out r mid → Puts more r mid q after → Puts (text ++ more) at out q after
puts_then text more at r q out mid after p s =
    let n : length mid ≡ length out = ap length p.1 ∙ length-sets out at text in
    let k : length (text ++ more) ≡ length text + length more = length-append text more in
    let place : r ≡ behind at (length text) (length mid) = p.0 ∙ ap (behind at (length text)) (sym n) in (
      s.0 ∙ ap (behind r (length more)) n ∙ behind-behind at (length text) (length more) (length out) r p.0 ∙ ap (λ (x : ℕ). behind at x (length out)) (sym k),
      s.1
          ∙ sets-cut more (at + length text) mid r (λ h. omega (arith, place, h)) (λ h. omega (arith, place, h))
          ∙ ap (λ (l : List ℕ). sets l (at + length text) more) p.1
          ∙ sym (sets-append text more at out),
    )

-- what is put lies within the buffer
pub puts-within : (text : List ℕ) (at r : ℕ) (out after : List ℕ) → at ≤ length out → Puts text at out r after → r ≡ length (take r after)
puts-within text at r out after h p =
    let n : length after ≡ length out = ap length p.1 ∙ length-sets out at text in
    sym (length-take-le r after (omega (arith, n, p.0)))

-- ---- one byte, and a text as far as there is room for it
pub puts-byte : (b at : ℕ) (out : List ℕ) → at < length out → Puts (b ∷ []) at out (at + 1) (set out at b)
puts-byte b at out h = (omega arith, refl)

pub puts-no-byte : (b at : ℕ) (out : List ℕ) → length out ≤ at → Puts (b ∷ []) at out at out
puts-no-byte b at out h = (omega arith, sym (set_out out at b h))

pub puts_none : (text : List ℕ) (at : ℕ) (out : List ℕ) → Puts (take 0 text) at out at out
puts_none text at out = (omega arith, refl)

pub puts-past : (text : List ℕ) (at : ℕ) (out : List ℕ) → length out ≤ at → Puts text at out at out
puts-past text at out h = (omega arith, sym (sets-out text at out h))

-- what finds room is put, and the rest left out
sets-taken : (text : List ℕ) (at n : ℕ) (out : List ℕ) → at < length out → n ≡ min (length text) (length out - at) → sets out at (take n text) ≡ sets out at text
sets-taken text at n out h e = go (leb (length text) (length out - at)) refl
  where
    go : (t : Bool) → leb (length text) (length out - at) ≡ t → sets out at (take n text) ≡ sets out at text
    go true p = ap (sets out at) (take_all n text (omega (arith, e, leb-true (length text) (length out - at) p)))
    go false p =
        let more : length out - at < length text = leb-false (length text) (length out - at) p in
        let long : length (take n text) ≡ n = length-take-le n text (omega (arith, e)) in
        let same : length (sets out at (take n text)) ≡ length out = length-sets out at (take n text) in
        sym (ap (sets out at) (sym (take-append-drop n text)) ∙ sets-append (take n text) (drop n text) at out
        ∙ sets-out (drop n text) (at + length (take n text)) (sets out at (take n text)) (omega (arith, same, long, e, more, h)))

pub puts-part : (text : List ℕ) (at n k : ℕ) (out part : List ℕ) → at < length out → n ≡ min (length text) (length out - at) → k ≡ n → part ≡ take n text
    → Puts text at out (at + n) (put_mid at k out part)
puts-part text at n k out part h e j p =
    let long : length (take n text) ≡ n = length-take-le n text (omega (arith, e)) in (
      omega (arith, h, e),
      put_mid-paste at k out part (take n text) n p (sym j) (sym long)
          ∙ (λ i. take at out ++ take-all (take n text) n long i ++ drop (at + sym long i) out)
          ∙ sym (sets-eq (take n text) out at (omega (arith, long, e, h)))
          ∙ sets-taken text at n out h e,
    )
  where
    take-all : (l : List ℕ) (m : ℕ) → length l ≡ m → take m l ≡ l
    take-all l m q = take_all m l (omega (arith, q))

-- ---- digits
module _ (n i rest : ℕ) (digits : List ℕ) where
  -- what is spelt, with what is still to spell before it
  abbrev pub Spelt : Type 0
  Spelt = (length digits ≡ 20) × (i ≤ 19) × (decimal_by i rest ++ drop (i + 1) digits ≡ decimal_by 19 n)

  abbrev digit : ℕ
  digit = last_digit rest

  put-digit : length digits ≡ 20 → i ≤ 19 → drop i (set digits i digit) ≡ digit ∷ drop (i + 1) digits
  put-digit l h = drop-set digits i digit (omega arith)

  pub spelt-ends : Spelt → (9 < rest → 0 < i → ⊥) → drop i (set digits i digit) ≡ decimal_by 19 n
  spelt-ends s h = put-digit s.0 s.1 ∙ ap (λ (l : List ℕ). l ++ drop (i + 1) digits) (sym (alone i s.1 h)) ∙ s.2
    where
      alone : (k : ℕ) → k ≤ 19 → (9 < rest → 0 < k → ⊥) → decimal_by k rest ≡ digit ∷ []
      alone zero b g = refl
      alone (suc k) b g = go (leb rest 9) refl
        where
          go : (x : Bool) → leb rest 9 ≡ x → cond x (digit ∷ []) (decimal_by k (rest / 10) ++ (digit ∷ [])) ≡ digit ∷ []
          go true e = refl
          go false e = absurd (g (leb-false rest 9 e) (omega arith))

pub spelt-goes-on : (n i rest : ℕ) (digits : List ℕ) → Spelt n i rest digits → 9 < rest → 0 < i → Spelt n (i - 1) (rest / 10) (set digits i (last_digit rest))
spelt-goes-on n zero rest digits s h k = absurd (omega arith)
spelt-goes-on n (suc i) rest digits s h k =
    let d = last_digit rest in
    let l : length (set digits (suc i) d) ≡ 20 = length-set digits (suc i) d ∙ s.0 in
    let at : suc i - 1 ≡ i = omega arith in
    let before : decimal_by (suc i) rest ≡ decimal_by i (rest / 10) ++ (d ∷ []) = rw (lt-leb rest 9 h) in
    let next : i + 1 ≡ suc i = omega arith in
    let after : drop (i + 1) (set digits (suc i) d) ≡ d ∷ drop (suc i + 1) digits = ap (λ (x : ℕ). drop x (set digits (suc i) d)) next ∙ drop-set digits (suc i) d (omega (arith, s.0, s.1)) in (
      l,
      omega (arith, s.1),
      ap (λ (x : ℕ). decimal_by x (rest / 10) ++ drop (x + 1) (set digits (suc i) d)) at
          ∙ ap (λ (t : List ℕ). decimal_by i (rest / 10) ++ t) after
          ∙ sym (append_assoc (decimal_by i (rest / 10)) (d ∷ []) (drop (suc i + 1) digits))
          ∙ ap (λ (t : List ℕ). t ++ drop (suc i + 1) digits) (sym before)
          ∙ s.2,
    )

pub spelt-begins : (n : ℕ) (digits : List ℕ) → length digits ≡ 20 → Spelt n 19 n digits
spelt-begins n digits l =
    let none : drop 20 digits ≡ [] = drop_of_length-le digits {i = 20} (omega (arith, l)) in
    (l, omega arith, ap (λ (t : List ℕ). decimal_by 19 n ++ t) none ∙ append-nil (decimal_by 19 n))

-- a text in a buffer from a place up to its end
pub puts-tail : (n k f at r : ℕ) (buf out after : List ℕ) → k ≡ length buf - f → drop f buf ≡ decimal_by 19 n → Puts (take k (drop f buf)) at out r after → Puts (decimal_by 19 n) at out r after
puts-tail n k f at r buf out after e s p =
    let all : take k (drop f buf) ≡ decimal_by 19 n = take_all k (drop f buf) (omega (arith, length-drop f buf, e)) ∙ s in
    subst (λ (l : List ℕ). Puts l at out r after) all p
