-- `reading::find` meets its contract.
use Rattle.std.specs.Prelude.{◌≡◌, ℕ, ◌+◌, ◌≤◌, length, drop, Ok}
use Rattle.std.proofs.Common.{arith, sym, ◌∙◌}
use Rattle.stock_frame.specs.Outline.{outline_of}
use Rattle.stock_reading.proofs.PlaceLaws.{found-bounds, found-whole}
use Rattle.stock_reading.proofs.reading.find.Goals as goal

-- the outline is whole, and its frame lies within the line
whole : (c : goal.In_ok-head) → outline_of (drop c.args.at c.args.line.now) ≡ Ok c.in_ok-head.head
whole c = sym c.outline.ensures ∙ c.in_ok-head.was

bounds : (c : goal.In_ok-head) → (14 ≤ c.in_ok-head.head.length) × (c.args.at + c.in_ok-head.head.length ≤ length c.args.line.now)
bounds c = found-bounds c.args.line.now c.args.at c.in_ok-head.head (whole c)

pub overflow_add-result : goal.overflow_add-result
overflow_add-result c = let b = bounds c in omega (arith, b.0, b.1)

pub overflow_add-result-2 : goal.overflow_add-result-2
overflow_add-result-2 c = let b = bounds c in omega (arith, b.0, b.1)

pub overflow_sub-result : goal.overflow_sub-result
overflow_sub-result c = let b = bounds c in omega (arith, b.0, b.1)

pub returns : goal.returns
returns c = found-whole c.args.line.now c.args.at c.in_ok-head.head (whole c)
