-- `halves::digits` meets its contract: no mask, sum or product leaves its 64 bits, and the result is the leaf of Leaf.antt.
use borrow.Author.Rules.{rules}
use Prim.Native.Nat.{◌/◌}
use native.Mathlib.Omega.{arith}
use lib.Bits.{and_le_r}
use Rattle.words.proofs.Lanes.{lows}
use Rattle.words.proofs.Leaf.{ones, twos}
use Rattle.words.proofs.LoadLaws.{leaf-bytes}
use Rattle.words.proofs.blocks.digits.Goals as goal

pub overflow_add-bad : goal.overflow_add-bad
overflow_add-bad c = omega (arith, and_le_r (c.args.x / 16) (lows 4 8))

pub overflow_add-bad-2 : goal.overflow_add-bad-2
overflow_add-bad-2 c = omega (arith, and_le_r c.args.x (lows 4 8))

pub overflow_mul-y : goal.overflow_mul-y
overflow_mul-y c = omega (arith, and_le_r (c.args.x / 16) (lows 4 8))

pub overflow_add-y : goal.overflow_add-y
overflow_add-y c = omega (arith, and_le_r (c.args.x / 16) (lows 4 8), and_le_r c.args.x (lows 4 8))

pub overflow_mul-z : goal.overflow_mul-z
overflow_mul-z c = omega (arith, and_le_r (ones c.args.x) (lows 8 4))

pub overflow_add-z : goal.overflow_add-z
overflow_add-z c = omega (arith, and_le_r (ones c.args.x) (lows 8 4), and_le_r (ones c.args.x / 256) (lows 8 4))

pub overflow_mul-w : goal.overflow_mul-w
overflow_mul-w c = omega (arith, and_le_r (twos c.args.x) (lows 16 2))

pub overflow_add-w : goal.overflow_add-w
overflow_add-w c = omega (arith, and_le_r (twos c.args.x) (lows 16 2), and_le_r (twos c.args.x / 65536) (lows 16 2))

pub overflow_cast-result-2 : goal.overflow_cast-result-2
overflow_cast-result-2 c = omega (arith, and_le_r (twos c.args.x) (lows 16 2), and_le_r (twos c.args.x / 65536) (lows 16 2))

pub returns : goal.returns
returns c = leaf-bytes c.args.x (search rules)
