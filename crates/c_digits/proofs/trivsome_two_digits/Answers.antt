-- `trivsome_two_digits` meets its contract: the answer is handed on as it is.
use Rattle.c_digits.proofs.trivsome_two_digits.Goals as goal

pub returns : goal.returns
returns c = c.two_digits.ensures
