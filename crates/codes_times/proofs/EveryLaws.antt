-- A test of every byte is the library's test of all items.
use mathlib.Core.Path.{◌≡◌, refl, ap}
use Rattle.std.proofs.Common.{ℕ, Bool, ◌&&◌, List, [], ◌∷◌}
use Rattle.std.specs.List.{list_all}
use Rattle.codes_times.specs.Times.{every}

pub all_every : (p : ℕ → Bool) (bs : List ℕ) → list_all p bs ≡ every p bs
all_every p [] = refl
all_every p (b ∷ bs) = ap (λ (t : Bool). p b && t) (all_every p bs)
