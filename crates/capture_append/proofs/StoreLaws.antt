-- Stores one after the other.
use Prim.Native.Nat.{ℕ, suc, ◌+◌}
use mathlib.Core.Path.{◌≡◌, ap, ◌∙◌}
use mathlib.Core.List.{List}
use native.Mathlib.Omega.{arith}
use lib.ListN.{length, get_or, length-set}
use Rattle.capture_append.specs.Stores.{stored_byte, store_of, stored_from}

pub store-next : (m : List ℕ) (start : ℕ) (b : List ℕ) (j : ℕ) (e after : List ℕ) → e ≡ stored_from m start b j → after ≡ store_of e start b j
    → after ≡ stored_from m start b (j + 1)
store-next m start b j e after is next =
    let more : suc j ≡ j + 1 = omega arith in
    next ∙ ap (λ (l : List ℕ). store_of l start b j) is ∙ ap (stored_from m start b) more

pub store_long : (m e after : List ℕ) (start : ℕ) (b : List ℕ) (j : ℕ) → length e ≡ length m → after ≡ store_of e start b j → length after ≡ length m
store_long m e after start b j same is = ap length is ∙ length-set e (start + stored_byte j) (get_or b (stored_byte j) 0) ∙ same
