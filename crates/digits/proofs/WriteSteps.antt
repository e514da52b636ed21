-- Writing a field from its last byte back: what the bytes from place k on hold, and what one byte more does.
use Rattle.std.specs.Prelude.{Ok}
use Prim.Native.Nat.{ℕ, suc, ◌+◌, ◌-◌, ◌/◌, ◌%◌, ◌^◌, ◌≤◌, ◌<◌}
use mathlib.Core.List.{List, [], ◌∷◌}
use mathlib.Core.Path.{◌≡◌, refl, ap, ◌∙◌}
use native.Mathlib.Nat.{pow-suc, div-div-eq-div-mul}
use native.Mathlib.Omega.{arith}
use borrow.Author.Tests.{lt-ltb}
use lib.ListN.{length, set}
use lib.Seq.{sets, set_comm}
use Rattle.digits.specs.Packed.{byte_of, packed}
use Rattle.digits.specs.Fields.{put_answer, put_at}
use Rattle.digits.proofs.Within.{within_all}

-- a store before a run of stores
sets-back : (vs l : List ℕ) (i k a : ℕ) → k < i → set (sets l i vs) k a ≡ sets (set l k a) i vs
sets-back [] l i k a h = refl
sets-back (b ∷ vs) l i k a h =
    sets-back vs (set l i b) (suc i) k a (omega arith)
    ∙ ap (λ (x : List ℕ). sets x (suc i) vs) (set_comm l i k b a (λ e. omega arith))

-- a turn: the digits from place k on are written, w is what is left of the number
module _ (v w end k : ℕ) (e e₀ : List ℕ) (some : 0 < k) (inside : k ≤ end)
    (left : w ≡ v / 100 ^ (end - k)) (done : e ≡ sets e₀ k (packed (end - k) v)) where
  -- one byte more
  one_more : end - (k - 1) ≡ suc (end - k)
  one_more = omega arith

  -- the number loses two digits
  pub write-left : w / 100 ≡ v / 100 ^ (end - (k - 1))
  write-left = rw (one_more, pow-suc, ← div-div-eq-div-mul v (100 ^ (end - k)) 100, left)

  -- which are stored before those written
  pub write-turn : set e (k - 1) (byte_of (w % 100)) ≡ sets e₀ (k - 1) (packed (end - (k - 1)) v)
  write-turn =
      let f : k ≡ suc (k - 1) = omega arith in
      let p = packed (end - k) v in
      let b = byte_of (v / 100 ^ (end - k) % 100) in
      rw (one_more, done, left) (sets-back p e₀ k (k - 1) b (omega arith) ∙ ap (λ (i : ℕ). sets (set e₀ (k - 1) b) i p) f)

-- where it ends
pub write-ends : (v n : ℕ) (e₀ : List ℕ) (at k : ℕ) (e : List ℕ) → k ≡ at → e ≡ sets e₀ k (packed (at + n - k) v) → e ≡ sets e₀ at (packed n v)
write-ends v n e₀ at k e q done =
    let m : at + n - k ≡ n = omega arith in
    rw (m, q) at done

-- the bytes written: done
pub write_done : (v n : ℕ) (e₀ : List ℕ) (at : ℕ) (e : List ℕ) → n ≤ 9 → at + n ≤ length e₀ → v < 100 ^ n
    → e ≡ sets e₀ at (packed n v) → (Ok tt ≡ put_answer v n e₀ at) × (e ≡ put_at v n e₀ at)
write_done v n e₀ at e w h l done = rw (within_all e₀ at n w h, lt-ltb v (100 ^ n) l) (refl, done)
