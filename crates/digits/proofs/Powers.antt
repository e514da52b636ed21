-- Powers of a hundred: a field of n bytes holds the numbers below 100 ^ n.
use Prim.Native.Nat.{ℕ, ◌^◌, ◌≤◌}
use native.Mathlib.Nat.{pow-le-pow_right}
use native.Mathlib.Omega.{arith}
use lib.Dec.{lit<}

-- eight bytes or fewer: two digits more still fit a u64
pub pow-eight : (k : ℕ) → k ≤ 8 → 100 ^ k ≤ 10000000000000000
pow-eight k h = pow-le-pow_right {n = 100} (lit< tt) h

-- every field holds at least 0
pub pow-some : (k : ℕ) → 1 ≤ 100 ^ k
pow-some k = pow-le-pow_right {n = 100} (lit< tt) {i = 0} {j = k} (omega arith)
