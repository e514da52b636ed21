-- Where a header's first bad digit is: the parts of a line that are looked at.
use Rattle.std.specs.Prelude.{Option}
use Prim.Native.Nat.{ℕ, ◌+◌, ◌-◌, ◌≤◌}
use mathlib.Core.Path.{◌≡◌, sym, ap, ◌∙◌}
use mathlib.Core.List.{List}
use native.Mathlib.Omega.{arith}
use lib.ListN.{length, take, drop, length-drop}
use lib.Seq.{take_all, drop-drop}
use Rattle.digits.specs.Halves.{looked}
use Rattle.layout.specs.Places.{first_bad}
use Rattle.layout.proofs.PlaceLaws.{length-take-most, else-right}
use Rattle.frame.specs.Header.{length_cells, length_bytes, head_bad}
use Rattle.derivatives_frame.specs.Outline.{header}

-- the two bytes of the length
pub length_part : (line : List ℕ) (at : ℕ) (p : Option ℕ) → p ≡ first_bad length_cells 24 (looked (take (at + 14 - (at + 12)) (drop (at + 12) line)))
    → p ≡ first_bad length_cells 24 (length_bytes header (drop at line))
length_part line at p is =
    let e : at + 14 - (at + 12) ≡ 2 = omega arith in
    is
    ∙ ap (λ (k : ℕ). first_bad length_cells 24 (looked (take k (drop (at + 12) line)))) e
    ∙ ap (first_bad length_cells 24) (take_all 65535 (take 2 (drop (at + 12) line)) (omega (arith, length-take-most 2 (drop (at + 12) line))))
    ∙ ap (λ (l : List ℕ). first_bad length_cells 24 (take 2 l)) (sym (drop-drop 12 at line))

-- what stands behind 27
pub head-part : (f : List ℕ) → length f ≤ 1024 → (p : Option ℕ) → p ≡ first_bad header.before 2 (looked (take (length f - 1) (drop 1 f))) → p ≡ head_bad header f
head-part f few p is =
    let rest : take (length f - 1) (drop 1 f) ≡ drop 1 f = take_all (length f - 1) (drop 1 f) (rw length-drop (omega arith)) in
    is
    ∙ ap (λ (l : List ℕ). first_bad header.before 2 (looked l)) rest
    ∙ ap (first_bad header.before 2) (take_all 65535 (drop 1 f) (rw length-drop (omega arith)))
    ∙ sym (else-right (first_bad header.before 2 (drop 1 f)))
