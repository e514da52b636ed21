-- The promise over the stores but the last in any order: they leave a torn block and nothing else, and change no answer.
use Rattle.capture.specs.declared.Unsound.{Unsound}
use Rattle.std.specs.Prelude.{Result, Ok, Err}
use Prim.Native.Nat.{ℕ, ◌+◌, ◌<◌, ◌≤◌}
use mathlib.Core.Path.{◌≡◌, refl, sym, ap, ◌∙◌}
use mathlib.Core.Bool.{Bool, true, false, cond, not}
use mathlib.Core.List.{List, [], ◌∷◌}
use native.Mathlib.Omega.{arith}
use borrow.Author.Tests.{eq-eqb, eqb-true, eqb-false, ltb-true}
use lib.ListN.{length, get_or, length-set}
use lib.Dec.{eqb, ltb}
use Rattle.capture.specs.Blocks.{number, unfinished, block_of}
use Rattle.capture.specs.Captures.{whole, start_of, block_at, unfinished_at, first_bad, first_unfinished}
use Rattle.capture_append.specs.Stores.{stored_byte, store_of}
use Rattle.capture_append.specs.Appending.{misfit, taken_of}
use Rattle.capture_append.specs.declared.AppendError.{AppendError}
use Rattle.laws_capture.specs.Exact.{TornAt, SameTold}
use Rattle.laws_capture.specs.Orders.{before_last, stored_by, bytes_by, torn_bytes, OrderTells}
use Rattle.laws_capture.proofs.BlockTrip.{fits-from, byte-0, byte-1, byte-2, both}
use Rattle.laws_capture.proofs.TornLaws.{number-store, block-store, store_other}
use Rattle.laws_capture.proofs.HoldLaws.{block-long}
use Rattle.laws_capture.proofs.CutTells.{place_of}
use Rattle.laws_capture.proofs.ExactLaws.{found-holds, torn-told}

-- what is known of memory and a payload where an append takes a place
record Takes (m x : List ℕ) (q : ℕ) : Type 0 where
  long : length m ≡ 65536
  fits : length x ≤ 504
  from : 1 ≤ q
  to : q ≤ 128
  open-there : unfinished_at m q ≡ true

taken-there : (m x : List ℕ) (q : ℕ) → taken_of m x ≡ Ok q → Takes m x q
unfolding taken_of first_unfinished
taken-there m x q is = go (whole m) (misfit x) (eqb (first_bad m) 0) (eqb (first_unfinished m) 0) refl refl refl is
  where
    go : (w s g u : Bool) → whole m ≡ w → misfit x ≡ s → eqb (first_unfinished m) 0 ≡ u
        → cond (not w) (Err (AppendError.Unsound Unsound.WrongSize)) (cond s (Err AppendError.PayloadLength) (cond (not g) (Err (AppendError.Unsound (Unsound.BadBlock (first_bad m)))) (cond u (Err AppendError.Full) (Ok (first_unfinished m))))) ≡ Ok q
        → Takes m x q
    go false s g u a b c e = let y : ◌≡◌ {A = ℕ} 0 1 = cc in absurd (omega (arith, y))
    go true true g u a b c e = let y : ◌≡◌ {A = ℕ} 0 1 = cc in absurd (omega (arith, y))
    go true false false u a b c e = let y : ◌≡◌ {A = ℕ} 0 1 = cc in absurd (omega (arith, y))
    go true false true true a b c e = let y : ◌≡◌ {A = ℕ} 0 1 = cc in absurd (omega (arith, y))
    go true false true false a b c e =
        let at = found-holds (unfinished_at m) 128 1 (omega arith) (eqb-false (first_unfinished m) 0 c) in
        let same : first_unfinished m ≡ q = ap place_of e in
        record {
          long = eqb-true (length m) 65536 a;
          fits = (fits-from x b).1;
          from = omega (arith, at.0, same);
          to = omega (arith, at.1, same);
          open-there = ap (unfinished_at m) (sym same) ∙ at.2;
        }

-- ---- at the place that an append takes
module _ (m x : List ℕ) (q : ℕ) (t : Takes m x q) where
  abbrev b : List ℕ
  b = block_of q x

  -- one store before the last over a torn block leaves a torn block
  store-torn : (e : List ℕ) (j : ℕ) → j + 1 < 512 → TornAt m e q → TornAt m (store_of e (start_of q) b j) q
  unfolding unfinished
  store-torn e j h at = record {
    long = length-set e (start_of q + stored_byte j) (get_or b (stored_byte j) 0) ∙ at.long;
    others = λ p f ne. at.others p f ne ∙ sym (store_other b q e j p f t.from ne);
    was-open = at.was-open;
    is_open = eq-eqb (number (block_at (store_of e (start_of q) b j) q)) 0
        (ap number (block-store b q e j)
        ∙ number-store (block_at e q) b j (block-long e q (at.long ∙ t.long) t.from t.to) h (eqb-true (number (block_at e q)) 0 at.is_open)
        (byte-0 q x t.to t.fits) (byte-1 q x t.to t.fits) (byte-2 q x t.to t.fits));
  }

  stored-torn : (js : List ℕ) → before_last js ≡ true → TornAt m (stored_by m (start_of q) b js) q
  stored-torn [] h = record { long = refl; others = λ p f ne. refl; was-open = t.open-there; is_open = t.open-there }
  stored-torn (j ∷ js) h =
      let s = both (ltb (j + 1) 512) (before_last js) h in
      store-torn (stored_by m (start_of q) b js) j (ltb-true (j + 1) 512 s.0) (stored-torn js s.1)

pub order-tells : (m x js : List ℕ) → before_last js ≡ true → OrderTells m x js
unfolding torn_bytes
order-tells m x js h = record { torn = torn-there; told = told-as (taken_of m x) refl }
  where
    at_place : (q : ℕ) → taken_of m x ≡ Ok q → TornAt m (stored_by m (start_of q) (block_of q x) js) q
    at_place q is = stored-torn m x q (taken-there m x q is) js h

    same : SameTold m m
    same = record { bad-same = refl; found-same = refl; held_same = refl; taken-same = λ y. refl; part_same = λ p. refl }

    torn-there : (q : ℕ) → taken_of m x ≡ Ok q → TornAt m (bytes_by (taken_of m x) m x js) q
    torn-there q is = rw is (at_place q is)

    told-as : (a : Result ℕ AppendError) → taken_of m x ≡ a → SameTold m (bytes_by a m x js)
    told-as (Ok q) is = torn-told m (stored_by m (start_of q) (block_of q x) js) q (taken-there m x q is).long (at_place q is)
    told-as (Err e) is = same
