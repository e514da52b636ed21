-- Entries put one after the other are the text of them all.
use Prim.Native.Nat.{ℕ, suc, ◌+◌, ◌≤◌, ◌<◌}
use mathlib.Core.List.{List, [], ◌∷◌, ◌++◌, append_assoc, append-nil}
use mathlib.Core.Path.{◌≡◌, refl, ap, sym, subst, ◌∙◌}
use native.Mathlib.Omega.{arith}
use native.Mathlib.Numerals.{add-one}
use lib.ListN.{length, take, get_or}
use lib.Seq.{take-suc, take_all, length-take-le}
use Rattle.printing.specs.Text.{Puts}
use Rattle.printing.proofs.TextLaws.{puts_then}
use Rattle.program_table.specs.Printed.{aligned, parting, entries_text, table_text}

-- the text of one entry more
entries_text-snoc : (b : ℕ) (xs : List ℕ) (x : ℕ) → entries_text b (xs ++ (x ∷ [])) ≡ entries_text b xs ++ (aligned x ++ (parting (b + length xs) ∷ []))
entries_text-snoc b [] x =
    let e : b ≡ b + 0 = omega arith in
    append-nil (aligned x ++ (parting b ∷ [])) ∙ ap (λ (k : ℕ). aligned x ++ (parting k ∷ [])) e
entries_text-snoc b (y ∷ ys) x =
    let e : suc b + length ys ≡ b + length (y ∷ ys) = omega arith in
    ap (λ (t : List ℕ). (aligned y ++ (parting b ∷ [])) ++ t) (entries_text-snoc (suc b) ys x ∙ ap (λ (k : ℕ). entries_text (suc b) ys ++ (aligned x ++ (parting k ∷ []))) e)
    ∙ sym (append_assoc (aligned y ++ (parting b ∷ [])) (entries_text (suc b) ys) (aligned x ++ (parting (b + length (y ∷ ys)) ∷ [])))

-- the entries up to a place are put, and then the one at it
pub next-put : (xs : List ℕ) (k x at r q : ℕ) (out mid after : List ℕ) → k < length xs → x ≡ get_or xs k 0
    → Puts (entries_text 0 (take k xs)) at out r mid → Puts (aligned x ++ (parting k ∷ [])) r mid q after → Puts (entries_text 0 (take (k + 1) xs)) at out q after
next-put xs k x at r q out mid after h e p s =
    let n : 0 + length (take k xs) ≡ k = omega (arith, length-take-le k xs (omega arith)) in
    let more : take (k + 1) xs ≡ take k xs ++ (get_or xs k 0 ∷ []) = rw add-one (take-suc xs k 0 h) in
    let t : entries_text 0 (take (k + 1) xs) ≡ entries_text 0 (take k xs) ++ (aligned x ++ (parting k ∷ [])) =
    ap (entries_text 0) more
    ∙ entries_text-snoc 0 (take k xs) (get_or xs k 0)
    ∙ ap (λ (i : ℕ). entries_text 0 (take k xs) ++ (aligned (get_or xs k 0) ++ (parting i ∷ []))) n
    ∙ ap (λ (y : ℕ). entries_text 0 (take k xs) ++ (aligned y ++ (parting k ∷ []))) (sym e) in
    subst (λ (text : List ℕ). Puts text at out q after) (sym t) (puts_then (entries_text 0 (take k xs)) (aligned x ++ (parting k ∷ [])) at r q out mid after p s)

-- up to the end all are put
pub all-put : (xs : List ℕ) (k at r : ℕ) (out after : List ℕ) → length xs ≤ k → Puts (entries_text 0 (take k xs)) at out r after → Puts (entries_text 0 xs) at out r after
all-put xs k at r out after h p = subst (λ (ys : List ℕ). Puts (entries_text 0 ys) at out r after) (take_all k xs h) p

-- the text is as long as the buffer that it is put into, so that nothing of it is left out
pub text-whole : length table_text ≡ 1024
text-whole = refl
