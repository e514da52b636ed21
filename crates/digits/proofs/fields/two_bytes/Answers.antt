-- `fields::two_bytes` meets its contract.
use Rattle.digits.proofs.PutLaws.{two_bytes}
use Rattle.digits.proofs.fields.two_bytes.Goals as goal

pub returns : goal.returns
returns c = two_bytes c.args.a c.requires
