-- `halves::four_in` meets its contract: four zero bytes stand after its own.
use mathlib.Core.Path.{ap, ◌∙◌}
use Rattle.words.specs.Blocks.{block_of}
use Rattle.words.proofs.LoadLaws.{lowered, halves-low}
use Rattle.words.proofs.blocks.four_in.Goals as goal

pub returns : goal.returns
returns c =
    let f = c.four in
    ap lowered c.digits-h.ensures ∙ halves-low f.result f.ensures.0 ∙ ap (block_of 0) f.ensures.1
