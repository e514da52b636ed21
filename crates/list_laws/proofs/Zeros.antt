-- A list whose numbers are made 0 one after the other.
use Prim.Native.Nat.{ℕ, ◌+◌, ◌<◌}
use mathlib.Core.Path.{◌≡◌, sym, ap, ◌∙◌}
use mathlib.Core.List.{List, [], ◌∷◌, ◌++◌, append_assoc, append-nil}
use native.Mathlib.Omega.{arith}
use lib.ListN.{length, set, drop, replicate, length-replicate, replicate-append-replicate, drop_of_length-le}
use lib.Seq.{set_at}
use Rattle.list_laws.proofs.Turns.{at_drop}

-- the next number becomes 0
pub zero-next : (s t : List ℕ) (i : ℕ) → t ≡ replicate i 0 ++ drop i s → i < length s → set t i 0 ≡ replicate (i + 1) 0 ++ drop (i + 1) s
zero-next s t i e h =
    ap (λ (l : List ℕ). set l i 0) (e ∙ ap (λ (l : List ℕ). replicate i 0 ++ l) (at_drop s i h))
    ∙ set_at (replicate i 0) _ (drop (i + 1) s) 0 i (length-replicate i 0)
    ∙ sym (append_assoc (replicate i 0) (0 ∷ []) (drop (i + 1) s))
    ∙ ap (λ (l : List ℕ). l ++ drop (i + 1) s) (replicate-append-replicate i 1 0)

-- at the end all are 0
pub zero-all : (s t : List ℕ) (i : ℕ) → t ≡ replicate i 0 ++ drop i s → i ≡ length s → t ≡ replicate (length s) 0
zero-all s t i e h =
    e ∙ ap (λ (l : List ℕ). replicate i 0 ++ l) (drop_of_length-le s {i = i} (omega arith)) ∙ append-nil (replicate i 0) ∙ ap (λ (n : ℕ). replicate n 0) h
