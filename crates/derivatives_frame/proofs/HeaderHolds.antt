-- The header keeps what a header has to show: the length of the body and the whole length tell each other.
use Prim.Native.Nat.{ℕ, ◌+◌, ◌≤◌}
use native.Mathlib.Omega.{arith}
use Rattle.digits.specs.Packed.{width}
use Rattle.frame.specs.Codec.{HeaderLaw}
use Rattle.derivatives_frame.specs.Outline.{header_with, header}

-- of any edition: four digits are enough for its longest body
pub header-law : (w longest : ℕ) → 13 + width w ≤ longest → longest ≤ 10012 + width w → HeaderLaw (header_with w longest)
header-law w longest low high =
    record {
      counts_whole = λ n. omega arith;
      whole-counts = λ k h. omega arith;
      counts-small = λ n h. omega arith;
      least-around = omega arith;
      least-most = low;
    }

-- of 2015
pub law : HeaderLaw header
law = header-law 8 1024 (omega arith) (omega arith)
