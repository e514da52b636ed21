-- `reading::finished` meets its contract, where memory has another size.
use Rattle.std.proofs.lemmas.Result.{err_from_is_err_and}
use Rattle.capture.proofs.CallLaws.{held-refused}
use Rattle.capture.proofs.reading.finished.Goals as goal

pub returns-in_err-sized : goal.returns-in_err-sized
returns-in_err-sized c =
    let p = err_from_is_err_and c.from_residual.result c.from_residual.ensures.1 in
    rw (p.1, p.2) (held-refused c.args.capture.now c.in_err-sized.ensures)
