-- `trivsome_write_prices_numbers` meets its contract.
use mathlib.Core.Path.{ap, ◌∙◌}
use mathlib.Core.List.{List}
use Rattle.stock_prices.specs.Prices.{twelve_codec}
use Rattle.stock_prices.specs.declared.Slot.{Slot}
use Rattle.stock_prices.specs.declared.Prices.{Prices}
use Rattle.c_outcomes.specs.Outcomes.{write_outcome}
use Rattle.c_outcomes.proofs.WriteLaws.{same_answer, same_bytes}
use Rattle.c_prices.proofs.trivsome_write_prices_numbers.Goals as goal

pub returns : goal.returns
returns c =
    let w = c.write.ensures in
    let q = ap {B = Prices} (λ (ss : List Slot). record { seq = c.args.seq; count = c.args.count; slots = ss }) c.slots_of-slots.ensures in
    let buf = c.args.buf.now in record {
      value = c.of_written.ensures ∙ ap write_outcome (w.0 ∙ same_answer twelve_codec buf q);
      buf_after = w.1 ∙ same_bytes twelve_codec buf q;
    }
