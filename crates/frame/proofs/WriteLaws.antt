-- What writing a frame answers and leaves.
use Rattle.std.specs.Prelude.{Err, Ok}
use Prim.Native.Nat.{ℕ, ◌≤◌, ◌<◌}
use mathlib.Core.Path.{◌≡◌, refl, sym, ap}
use mathlib.Core.Bool.{Bool, true, false, cond}
use mathlib.Core.List.{List, ◌++◌}
use native.Mathlib.Omega.{arith}
use lib.ListN.{length, drop}
use lib.Dec.{leb}
use borrow.Author.Tests.{le-leb, lt-leb}
use Rattle.answers.specs.Answers.{written_number}
use Rattle.frame.specs.Writing.{write_answer, written_over}
use Rattle.answers.specs.declared.WriteError.TheVariants.{Illegal, NoRoom}

module _ (ok : Bool) (f buf : List ℕ) where
  pub write-illegal : ok ≡ false → (Err Illegal ≡ write_answer ok f buf) × (buf ≡ written_over ok f buf)
  write-illegal e = rw e (refl, refl)

  module _ (e : ok ≡ true) (n : ℕ) (long : length f ≡ n) where
    pub write-short : length buf < n → (Err NoRoom ≡ write_answer ok f buf) × (buf ≡ written_over ok f buf)
    write-short h = rw (e, lt-leb (length f) (length buf) (omega arith)) (refl, refl)

    pub write-whole : n ≤ length buf → (Ok n ≡ write_answer ok f buf) × (f ++ drop n buf ≡ written_over ok f buf)
    write-whole h =
        let w : leb (length f) (length buf) ≡ true = le-leb (length f) (length buf) (omega arith) in
        rw (e, w) (ap Ok (sym long), ap (λ (k : ℕ). f ++ drop k buf) (sym long))

-- the number of a writing's answer: 14 before 15
pub written-number : (ok : Bool) (f buf : List ℕ) → written_number (write_answer ok f buf) ≡ cond ok (cond (leb (length f) (length buf)) 0 15) 14
written-number false f buf = refl
written-number true f buf = go (leb (length f) (length buf))
  where
    go : (t : Bool) → written_number (cond t (Ok (length f)) (Err NoRoom)) ≡ cond t 0 15
    go true = refl
    go false = refl
