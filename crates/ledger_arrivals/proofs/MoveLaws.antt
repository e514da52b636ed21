-- Ends moved by two places, down or up; zeros behind the last stay as they are.
use Prim.Native.Nat.{ℕ, zero, suc, ◌+◌, ◌-◌, ◌≤◌}
use native.Mathlib.Omega.{arith}
use mathlib.Core.Path.{◌≡◌, refl, sym, ap, ◌∙◌, ap₂}
use mathlib.Core.Bool.{true}
use mathlib.Core.List.{List, [], ◌∷◌, ◌++◌, append_assoc}
use lib.ListN.{length, get_or, take, drop, set, drop_of_length-le, replicate, length-append, length-drop, take-append-drop}
use lib.Seq.{take-add, take-take, drop-drop, take-append-le, take-append-add, drop-append_seam, length-take-le}
use Rattle.std.specs.List.{copy_within}
use Rattle.ledger.specs.Ends.{falling}
use Rattle.ledger.proofs.EndLaws.{falls-head, falls-tail}

-- two neighbours set
pub set-two : (l : List ℕ) (i a b : ℕ) → i + 2 ≤ length l → set (set l i a) (i + 1) b ≡ take i l ++ (a ∷ b ∷ drop (i + 2) l)
set-two (x ∷ y ∷ l) zero a b h = refl
set-two (x ∷ l) (suc i) a b h =
    let one : suc i + 1 ≡ suc (i + 1) = omega arith in
    let two : suc i + 2 ≡ suc (i + 2) = omega arith in
    rw (one, two) (ap (λ (t : List ℕ). x ∷ t) (set-two l i a b (omega arith)))
set-two [] zero a b h = absurd (omega arith)
set-two (x ∷ []) zero a b h = absurd (omega arith)
set-two [] (suc i) a b h = absurd (omega arith)

-- the ends behind two places moved down onto them, as far as that changes any
pub close-ends : (es : List ℕ) (at to : ℕ) → length es ≡ 129 → at ≤ to → to ≤ 127 → take (127 - to) (drop to es) ≡ drop (to + 2) es
    → set (set (copy_within es (at + 2) (to + 2) at) 127 0) 128 0 ≡ take at es ++ (drop (at + 2) es ++ (0 ∷ 0 ∷ []))
close-ends es at to n le h stay =
    let k = to - at in
    let moved = take k (drop (at + 2) es) in
    let e = copy_within es (at + 2) (to + 2) at in
    let many : to + 2 - (at + 2) ≡ k = omega arith in
    let on : at + k ≡ to = omega arith in
    let is : e ≡ (take at es ++ moved) ++ drop to es = rw (many, on) refl in
    let head : length (take at es ++ moved) ≡ to =
    omega (arith, length-append (take at es) moved, length-take-le at es (omega arith), length-take-le k (drop (at + 2) es) (omega (arith, length-drop (at + 2) es))) in
    let long : length e ≡ 129 = ap length is ∙ omega (arith, length-append (take at es ++ moved) (drop to es), head, length-drop to es) in
    let none : drop 129 e ≡ [] = drop_of_length-le e {i = 129} (omega arith) in
    let q : 127 ≡ length (take at es ++ moved) + (127 - to) = omega arith in
    let r : at + 2 + k ≡ to + 2 = omega arith in
    let rest : moved ++ drop (to + 2) es ≡ drop (at + 2) es =
    ap (λ (t : List ℕ). moved ++ t) (sym (drop-drop k (at + 2) es ∙ ap (λ (j : ℕ). drop j es) r)) ∙ take-append-drop k (drop (at + 2) es) in
    let front : take 127 e ≡ take at es ++ drop (at + 2) es =
    ap (λ (j : ℕ). take j e) q ∙ ap (λ (t : List ℕ). take (length (take at es ++ moved) + (127 - to)) t) is
    ∙ take-append-add (take at es ++ moved) (drop to es) (127 - to)
    ∙ ap (λ (t : List ℕ). (take at es ++ moved) ++ t) stay ∙ append_assoc (take at es) moved (drop (to + 2) es) ∙ ap (λ (t : List ℕ). take at es ++ t) rest in
    set-two e 127 0 0 (omega arith) ∙ rw (none, front) (append_assoc (take at es) (drop (at + 2) es) (0 ∷ 0 ∷ []))

-- the ends from a place on moved up by two places, as far as that changes any
pub open-ends : (es : List ℕ) (at to last before : ℕ) → length es ≡ 129 → at ≤ to → to ≤ 127 → take (127 - to) (drop to es) ≡ drop (to + 2) es
    → set (set (copy_within es at to (at + 2)) at last) (at + 1) before ≡ take at es ++ (last ∷ before ∷ take (127 - at) (drop at es))
open-ends es at to last before n le h stay =
    let k = to - at in
    let moved = take k (drop at es) in
    let e = copy_within es at to (at + 2) in
    let on : at + 2 + k ≡ to + 2 = omega arith in
    let is : e ≡ take (at + 2) es ++ (moved ++ drop (to + 2) es) = rw on (append_assoc (take (at + 2) es) moved (drop (to + 2) es)) in
    let head : length (take (at + 2) es) ≡ at + 2 = length-take-le (at + 2) es (omega arith) in
    let long : at + 2 ≤ length e = omega (arith, ap length is, length-append (take (at + 2) es) (moved ++ drop (to + 2) es), head) in
    let first : take at e ≡ take at es =
    ap (λ (t : List ℕ). take at t) is ∙ take-append-le at (take (at + 2) es) (moved ++ drop (to + 2) es) (omega (arith, head)) ∙ take-take at (at + 2) es (omega arith) in
    let back : drop (at + 2) e ≡ moved ++ drop (to + 2) es =
    ap (λ (t : List ℕ). drop (at + 2) t) is ∙ ap (λ (j : ℕ). drop j (take (at + 2) es ++ (moved ++ drop (to + 2) es))) (sym head) ∙ drop-append_seam (take (at + 2) es) (moved ++ drop (to + 2) es) in
    let r : 127 - at ≡ k + (127 - to) = omega arith in
    let s : at + k ≡ to = omega arith in
    let rest : moved ++ drop (to + 2) es ≡ take (127 - at) (drop at es) =
    sym (ap (λ (j : ℕ). take j (drop at es)) r ∙ take-add k (127 - to) (drop at es)
    ∙ ap (λ (t : List ℕ). moved ++ take (127 - to) t) (drop-drop k at es ∙ ap (λ (j : ℕ). drop j es) s) ∙ ap (λ (t : List ℕ). moved ++ t) stay) in
    set-two e at last before long ∙ rw (first, back ∙ rest) refl

-- behind an end that is 0 all are
low_zeros : (b : ℕ) (es : List ℕ) → b ≤ 1 → falling b es ≡ true → es ≡ replicate (length es) 0
low_zeros b [] le h = refl
low_zeros b (e ∷ es) le h =
    let none : e ≡ 0 = omega (arith, falls-head b e es h) in
    ap₂ (λ (x : ℕ) (l : List ℕ). x ∷ l) none (low_zeros e es (omega arith) (falls-tail b e es h))

zeros-behind : (b k m : ℕ) (es : List ℕ) → falling b es ≡ true → get_or es k 0 ≡ 0 → length es ≡ k + m → drop k es ≡ replicate m 0
zeros-behind b zero m [] h z n =
    let q : m ≡ 0 = omega arith in
    rw q refl
zeros-behind b zero m (e ∷ es) h z n =
    let q : m ≡ suc (length es) = omega arith in
    rw q (ap₂ (λ (x : ℕ) (l : List ℕ). x ∷ l) z (low_zeros e es (omega arith) (falls-tail b e es h)))
zeros-behind b (suc k) m [] h z n = absurd (omega arith)
zeros-behind b (suc k) m (e ∷ es) h z n = zeros-behind e k m es (falls-tail b e es h) z (omega arith)

take-zeros : (m n : ℕ) → m ≤ n → take {A = ℕ} m (replicate n 0) ≡ replicate m 0
take-zeros zero n le = refl
take-zeros (suc m) zero le = absurd (omega arith)
take-zeros (suc m) (suc n) le = ap (λ (l : List ℕ). 0 ∷ l) (take-zeros m n (omega arith))

-- moved by two places they are as they were
pub zeros-stay : (b k : ℕ) (es : List ℕ) → falling b es ≡ true → length es ≡ 129 → k ≤ 127 → get_or es k 0 ≡ 0 → take (127 - k) (drop k es) ≡ drop (k + 2) es
zeros-stay b k es h n le z =
    let all : drop k es ≡ replicate (suc (suc (127 - k))) 0 = zeros-behind b k (suc (suc (127 - k))) es h z (omega arith) in
    rw all (take-zeros (127 - k) (suc (suc (127 - k))) (omega arith)) ∙ sym (sym (drop-drop 2 k es) ∙ ap (λ (l : List ℕ). drop 2 l) all)
