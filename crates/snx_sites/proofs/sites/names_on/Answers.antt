use Rattle.std.proofs.lemmas.Result.{err_from_is_err_and}
use Rattle.snx_sites.proofs.Chain.{names_stop}
use Rattle.snx_sites.proofs.sites.names_on.Goals as goal

pub returns-in_err-point : goal.returns-in_err-point
returns-in_err-point c =
    let from = err_from_is_err_and c.from_residual-in_err-point.result c.from_residual-in_err-point.ensures.1 in
    rw (from.1, from.2) (names_stop c.args.line.now.text.now c.in_ok-code.code c.in_ok-code.ensures c.in_err-point.field-0.0 c.in_err-point.ensures)
