use Rattle.std.proofs.lemmas.Result.{err_from_is_err_and}
use Rattle.snx_lines.proofs.passing.frame.Goals as goal

pub returns-in_err-framing : goal.returns-in_err-framing
returns-in_err-framing c =
    let p = err_from_is_err_and c.from_residual.result c.from_residual.ensures.1 in
    rw (p.1, p.2) tt
