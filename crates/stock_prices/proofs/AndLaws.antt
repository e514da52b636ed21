-- Tests joined by `&&`, taken from the first: one that fails, one that holds before a failure, one that holds.
use mathlib.Core.Path.{◌≡◌, ap, ap₂}
use mathlib.Core.Bool.{Bool, true, false, ◌&&◌}

pub none : (x : Bool) {a : Bool} → a ≡ false → (a && x) ≡ false
none x {a} e = ap (λ (t : Bool). t && x) e

pub later : {a x : Bool} → a ≡ true → x ≡ false → (a && x) ≡ false
later {a} {x} e f = ap₂ ◌&&◌ e f

pub holds : (x : Bool) {a : Bool} → a ≡ true → (a && x) ≡ x
holds x {a} e = ap (λ (t : Bool). t && x) e
