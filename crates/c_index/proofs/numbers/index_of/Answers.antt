-- `numbers::index_of` meets its contract.
use Rattle.c_index.proofs.numbers.index_of.Goals as goal

pub returns : goal.returns
returns c = simp c.length_of-length.ensures
