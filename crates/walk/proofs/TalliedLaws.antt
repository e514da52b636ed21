-- A tally with room is moved on by exactly a walk's figures.
use Prim.Native.Nat.{ℕ, ◌+◌, ◌≤◌, min}
use mathlib.Core.Path.{◌≡◌, ap, ◌∙◌}
use mathlib.Core.Bool.{Bool, true, false, ◌&&◌}
use mathlib.Core.List.{List}
use native.Mathlib.Omega.{arith}
use lib.ListN.{length}
use lib.Dec.{leb}
use borrow.Author.Tests.{leb-true}
use Rattle.digits.proofs.Bools.{and_left, and_right}
use Rattle.walk.specs.Walk.{Reading}
use Rattle.walk.specs.Sound.{Sound}
use Rattle.walk.specs.Tally.{largest, has_room, moved_on, capped, tally_of, tallied_of}
use Rattle.walk.specs.declared.tally.Tally.{Tally}
use Rattle.walk.proofs.FigureLaws.{figures-add-up}

module _ {A : Type 0} (R : Reading A) (longest : ℕ) (S : Sound R longest) (t : Tally) (c : Bool) (line : List ℕ) where
  pub tallied-moves : has_room t (length line) ≡ true → (w u : Tally) → w ≡ tally_of R c line → u ≡ capped (moved_on t w)
      → record { tally = u; answer = 0 } ≡ tallied_of R t c line
  tallied-moves h w u is q =
      let v = tally_of R c line in
      let sum = figures-add-up R longest S c line in
      let others = and_right (leb (t.accepted + length line) largest) (leb (t.refused + length line) largest && leb (t.skipped + length line) largest) h in
      let a : t.accepted + length line ≤ largest = leb-true (t.accepted + length line) largest (and_left _ _ h) in
      let b : t.refused + length line ≤ largest = leb-true (t.refused + length line) largest (and_left _ _ others) in
      let d : t.skipped + length line ≤ largest = leb-true (t.skipped + length line) largest (and_right (leb (t.refused + length line) largest) _ others) in
      let x : min (t.accepted + v.accepted) largest ≡ t.accepted + v.accepted = omega (arith, sum, a) in
      let y : min (t.refused + v.refused) largest ≡ t.refused + v.refused = omega (arith, sum, b) in
      let z : min (t.skipped + v.skipped) largest ≡ t.skipped + v.skipped = omega (arith, sum, d) in
      rw h
      (ap (λ (p : Tally). record { tally = p; answer = 0 }) (q ∙ ap (λ (p : Tally). capped (moved_on t p)) is)
      ∙ (λ i. record { tally = record { accepted = x i; refused = y i; skipped = z i; waiting = v.waiting }; answer = 0 }))

  pub tallied-stays : has_room t (length line) ≡ false → record { tally = t; answer = 16 } ≡ tallied_of R t c line
  tallied-stays h = rw h
