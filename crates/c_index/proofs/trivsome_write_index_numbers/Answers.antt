-- `trivsome_write_index_numbers` meets its contract.
use mathlib.Core.Path.{ap, ◌∙◌}
use Rattle.derivatives_index.specs.declared.index.Index.{Index}
use Rattle.c_outcomes.specs.Outcomes.{write_outcome}
use Rattle.c_index.specs.Index.{index_outcome, index_written}
use Rattle.c_index.proofs.trivsome_write_index_numbers.Goals as goal

pub returns : goal.returns
returns c =
    let w = c.write.ensures in
    let q = c.index_of-index.ensures in
    let buf = c.args.buf.now in record {
      value = c.of_written.ensures ∙ ap write_outcome w.0 ∙ ap (λ (m : Index). index_outcome m buf) q;
      buf_after = w.1 ∙ ap (λ (m : Index). index_written m buf) q;
    }
