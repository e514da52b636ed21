-- `trivsome_write_quote_numbers` meets its contract.
use mathlib.Core.Path.{ap, ◌∙◌}
use Rattle.stock_quotes.specs.Quotes.{six_codec}
use Rattle.c_outcomes.specs.Outcomes.{write_outcome}
use Rattle.c_outcomes.proofs.WriteLaws.{same_answer, same_bytes}
use Rattle.c_quotes.proofs.trivsome_write_quote_numbers.Goals as goal

pub returns : goal.returns
returns c =
    let w = c.write.ensures in
    let q = c.quote_of-quote.ensures in
    let buf = c.args.buf.now in record {
      value = c.of_written.ensures ∙ ap write_outcome (w.0 ∙ same_answer six_codec buf q);
      buf_after = w.1 ∙ same_bytes six_codec buf q;
    }
