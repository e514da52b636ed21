-- Two readings of the same frames, one of which says more: their walks make the same moves.
use Prim.Native.Nat.{ℕ, ◌+◌}
use mathlib.Core.Path.{◌≡◌, sym, ap, ◌∙◌}
use mathlib.Core.Bool.{Bool, true, false, cond, not, ◌&&◌, ◌||◌}
use mathlib.Core.List.{List, ◌∷◌, map}
use lib.ListN.{length, drop}
use lib.Dec.{eqb}
use Rattle.walk.specs.Walk.{Reading, Move, is_whole, stops, walk_from, rest_of}
use Rattle.walk.specs.Sound.{Sound}
use Rattle.walk.proofs.WalkLaws.{front, step, behind, walk-stops, walk-moves, walk-induct}

module _ {A B : Type 0} (R : Reading A) (Q : Reading B) (longest longest' : ℕ) (S : Sound R longest) (T : Sound Q longest') (f : B → A)
    (same-says : (t : List ℕ) → R.says t ≡ f (Q.says t))
    (same_number : (b : B) → R.number (f b) ≡ Q.number b)
    (same_size : (b : B) → R.size (f b) ≡ Q.size b) where
  -- a move that says less
  abbrev pub less : Move B → Move A
  less m = record { at = m.at; said = f m.said; bytes = m.bytes }

  number-says : (t : List ℕ) → R.number (R.says t) ≡ Q.number (Q.says t)
  number-says t = ap R.number (same-says t) ∙ same_number (Q.says t)

  pub same-stops : (c : Bool) (t : List ℕ) → stops R c t ≡ stops Q c t
  same-stops c t = ap (λ (n : ℕ). eqb n 2 && (not c || eqb (length t) 0)) (number-says t)

  same_step : (t : List ℕ) → step R t ≡ step Q t
  same_step t = λ i. cond (is_whole (number-says t i)) ((ap R.size (same-says t) ∙ same_size (Q.says t)) i) 1

  abbrev Same : Bool → ℕ → List ℕ → Type 0
  Same c at t = (walk_from R c at t ≡ map less (walk_from Q c at t)) × (rest_of R c t ≡ rest_of Q c t)

  pub walk-map : (c : Bool) (at : ℕ) (t : List ℕ) → Same c at t
  walk-map c = walk-induct Q longest' T c (Same c) stopped moved
    where
      stopped : (at : ℕ) (t : List ℕ) → stops Q c t ≡ true → Same c at t
      stopped at t e =
          let r = walk-stops R longest S c at t (same-stops c t ∙ e) in
          let q = walk-stops Q longest' T c at t e in
          (r.0 ∙ sym (ap (map less) q.0), r.1 ∙ sym q.1)

      moved : (at : ℕ) (t : List ℕ) → stops Q c t ≡ false → Same c (at + step Q t) (behind Q t) → Same c at t
      moved at t e ih =
          let r = walk-moves R longest S c at t (same-stops c t ∙ e) in
          let q = walk-moves Q longest' T c at t e in (
            r.0
                ∙ (λ i. record { at = at; said = same-says t i; bytes = same_step t i } ∷ walk_from R c (at + same_step t i) (drop (same_step t i) t))
                ∙ ap (λ (ms : List (Move A)). less (front Q at t) ∷ ms) ih.0
                ∙ sym (ap (map less) q.0),
            r.1 ∙ ap (λ (n : ℕ). rest_of R c (drop n t)) (same_step t) ∙ ih.1 ∙ sym q.1,
          )
