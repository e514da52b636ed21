-- Laws of a layout and then another: what fits and what is written.
use Prim.Native.Nat.{ℕ}
use mathlib.Core.Path.{◌≡◌, refl, sym, ap, ◌∙◌}
use mathlib.Core.Bool.{Bool, ◌&&◌, and_assoc}
use mathlib.Core.List.{List, [], ◌∷◌, ◌++◌, append_assoc}
use native.Mathlib.Omega.{arith}
use lib.ListN.{length}
use Rattle.layout.specs.Cells.{Cell, cell_fits, cell_bytes, fits, encode}

pub fits-append : (cs ds : List Cell) (vs ws : List ℕ) → length vs ≡ length cs → fits (cs ++ ds) (vs ++ ws) ≡ (fits cs vs && fits ds ws)
fits-append [] ds [] ws h = refl
fits-append [] ds (v ∷ vs) ws h = absurd (omega arith)
fits-append (c ∷ cs) ds [] ws h = absurd (omega arith)
fits-append (c ∷ cs) ds (v ∷ vs) ws h =
    ap (λ (x : Bool). cell_fits c v && x) (fits-append cs ds vs ws (omega arith))
    ∙ sym (and_assoc (cell_fits c v) (fits cs vs) (fits ds ws))

pub encode-append : (cs ds : List Cell) (vs ws : List ℕ) → length vs ≡ length cs → encode (cs ++ ds) (vs ++ ws) ≡ encode cs vs ++ encode ds ws
encode-append [] ds [] ws h = refl
encode-append [] ds (v ∷ vs) ws h = absurd (omega arith)
encode-append (c ∷ cs) ds [] ws h = absurd (omega arith)
encode-append (c ∷ cs) ds (v ∷ vs) ws h =
    ap (λ (l : List ℕ). cell_bytes c v ++ l) (encode-append cs ds vs ws (omega arith))
    ∙ sym (append_assoc (cell_bytes c v) (encode cs vs) (encode ds ws))
