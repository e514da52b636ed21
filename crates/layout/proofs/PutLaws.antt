-- Cells put into a buffer one behind another, over any cell; and bytes put as they are.
use Prim.Native.Nat.{ℕ, suc, ◌+◌, ◌^◌, ◌≤◌, ◌<◌}
use mathlib.Core.Path.{◌≡◌, refl, sym, ap, ◌∙◌}
use mathlib.Core.Bool.{Bool, cond}
use mathlib.Core.List.{List, [], ◌∷◌, ◌++◌}
use native.Mathlib.Numerals.{add-one}
use native.Mathlib.Omega.{arith}
use lib.ListN.{length, get_or, take, drop, set}
use lib.Seq.{sets, length-sets, drop-set-lt, take-suc, length-take-le}
use borrow.Author.Tests.{le-leb, lt-leb}
use Rattle.digits.specs.Packed.{width, packed}
use Rattle.digits.specs.Fields.{put_at}
use Rattle.digits.proofs.PackedLaws.{lt-width}
use Rattle.digits.proofs.FieldLaws.{put-fits}
use Rattle.layout.specs.Cells.{digits, cell_bytes}
use Rattle.layout.specs.Bytes.{bytes_over}

-- ---- stores behind stores
pub sets_behind : (vs ws s : List ℕ) (at k : ℕ) → at + length vs ≡ k → sets (sets s at vs) k ws ≡ sets s at (vs ++ ws)
sets_behind [] ws s at k e = ap (λ (i : ℕ). sets s i ws) (sym e ∙ omega arith)
sets_behind (v ∷ vs) ws s at k e = sets_behind vs ws (set s at v) (suc at) k (omega arith)

-- a field written behind what stands from a place on
pub put-behind : (v n : ℕ) (vs s t : List ℕ) (at k : ℕ) → t ≡ sets s at vs → at + length vs ≡ k → n ≤ 9 → k + n ≤ length s → v < 100 ^ n
    → put_at v n t k ≡ sets s at (vs ++ packed n v)
put-behind v n vs s t at k so e w h l =
    ap (λ (x : List ℕ). put_at v n x k) so
    ∙ (put-fits v n (sets s at vs) k w (rw length-sets h) l).1
    ∙ sets_behind vs (packed n v) s at k e

-- ---- the bytes vs stand from a place on in s: the next cell's bytes stand behind them
module _ (vs s t : List ℕ) (at k : ℕ) (so : t ≡ sets s at vs) (e : at + length vs ≡ k) where
  -- any bytes, as stores one by one leave them; of a raw cell `set t k v`
  pub put_next : (ws : List ℕ) → sets t k ws ≡ sets s at (vs ++ ws)
  put_next ws = ap (λ (x : List ℕ). sets x k ws) so ∙ sets_behind vs ws s at k e

  -- a packed field
  pub put-digits : (n v : ℕ) → width n ≤ 9 → k + width n ≤ length s → v < 10 ^ n → put_at v (width n) t k ≡ sets s at (vs ++ cell_bytes (digits n) v)
  put-digits n v w h l = put-behind v (width n) vs s t at k so e w h (lt-width n v l)

-- one byte more of those that are put
pub put-turns : (ws s t : List ℕ) (at i : ℕ) → t ≡ sets s at (take i ws) → i < length ws → set t (at + i) (get_or ws i 0) ≡ sets s at (take (i + 1) ws)
put-turns ws s t at i so h =
    let e : at + length (take i ws) ≡ at + i = ap (λ (k : ℕ). at + k) (length-take-le i ws (omega arith)) in
    put_next (take i ws) s t at (at + i) so e (get_or ws i 0 ∷ [])
    ∙ ap (sets s at) (sym (ap (λ (k : ℕ). take k ws) (add-one i) ∙ take-suc ws i 0 h))

-- bytes that do not fit are not put, and bytes that fit are
module _ (vs buf : List ℕ) (at : ℕ) where
  pub bytes-out : length buf < at + length vs → buf ≡ bytes_over vs buf at
  bytes-out h = sym (ap (λ (t : Bool). cond t (sets buf at vs) buf) (lt-leb (at + length vs) (length buf) h))

  pub bytes-in : at + length vs ≤ length buf → sets buf at vs ≡ bytes_over vs buf at
  bytes-in h = sym (ap (λ (t : Bool). cond t (sets buf at vs) buf) (le-leb (at + length vs) (length buf) h))

-- what stands behind bytes that were put at a place
pub drop-sets : (vs s : List ℕ) (at n : ℕ) → at + length vs ≤ n → drop n (sets s at vs) ≡ drop n s
drop-sets [] s at n h = refl
drop-sets (v ∷ vs) s at n h = drop-sets vs (set s at v) (suc at) n (omega arith) ∙ drop-set-lt n s at v (omega arith)
