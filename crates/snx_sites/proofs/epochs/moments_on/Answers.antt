use Rattle.std.proofs.lemmas.Result.{err_from_is_err_and}
use Rattle.snx_sites.proofs.Chain.{no_point, no_soln, no_technique, no_start, no_end, no_mean, whole_row}
use Rattle.snx_sites.proofs.epochs.moments_on.Goals as goal

pub returns-in_err-point : goal.returns-in_err-point
returns-in_err-point c =
    let from = err_from_is_err_and c.from_residual-in_err-point.result c.from_residual-in_err-point.ensures.1 in
    rw (from.1, from.2) (no_point c.args.line.now.text.now c.in_ok-code.code c.in_ok-code.ensures c.in_err-point.field-0.0 c.in_err-point.ensures)

pub returns-in_err-soln : goal.returns-in_err-soln
returns-in_err-soln c =
    let from = err_from_is_err_and c.from_residual-in_err-soln.result c.from_residual-in_err-soln.ensures.1 in
    rw (from.1, from.2) (no_soln c.args.line.now.text.now c.in_ok-code.code c.in_ok-code.ensures c.in_ok-point.point c.in_ok-point.ensures c.in_err-soln.field-0.0 c.in_err-soln.ensures)

pub returns-in_err-technique : goal.returns-in_err-technique
returns-in_err-technique c =
    let from = err_from_is_err_and c.from_residual-in_err-technique.result c.from_residual-in_err-technique.ensures.1 in
    rw (from.1, from.2) (no_technique c.args.line.now.text.now c.in_ok-code.code c.in_ok-code.ensures c.in_ok-point.point c.in_ok-point.ensures c.in_ok-soln.soln c.in_ok-soln.ensures c.in_err-technique.field-0.0 c.in_err-technique.ensures)

pub returns-in_err-start : goal.returns-in_err-start
returns-in_err-start c =
    let from = err_from_is_err_and c.from_residual-in_err-start.result c.from_residual-in_err-start.ensures.1 in
    rw (from.1, from.2) (no_start c.args.line.now.text.now c.in_ok-code.code c.in_ok-code.ensures c.in_ok-point.point c.in_ok-point.ensures c.in_ok-soln.soln c.in_ok-soln.ensures c.in_ok-technique.technique c.in_ok-technique.ensures c.in_err-start.field-0.0 c.in_err-start.ensures.moment)

pub returns-in_err-end : goal.returns-in_err-end
returns-in_err-end c =
    let from = err_from_is_err_and c.from_residual-in_err-end.result c.from_residual-in_err-end.ensures.1 in
    rw (from.1, from.2) (no_end c.args.line.now.text.now c.in_ok-code.code c.in_ok-code.ensures c.in_ok-point.point c.in_ok-point.ensures c.in_ok-soln.soln c.in_ok-soln.ensures c.in_ok-technique.technique c.in_ok-technique.ensures c.in_ok-start.start c.in_ok-start.ensures.moment c.in_err-end.field-0.0 c.in_err-end.ensures.moment)

pub returns-in_err-mean : goal.returns-in_err-mean
returns-in_err-mean c =
    let from = err_from_is_err_and c.from_residual-in_err-mean.result c.from_residual-in_err-mean.ensures.1 in
    rw (from.1, from.2) (no_mean c.args.line.now.text.now c.in_ok-code.code c.in_ok-code.ensures c.in_ok-point.point c.in_ok-point.ensures c.in_ok-soln.soln c.in_ok-soln.ensures c.in_ok-technique.technique c.in_ok-technique.ensures c.in_ok-start.start c.in_ok-start.ensures.moment c.in_ok-end.end c.in_ok-end.ensures.moment c.in_err-mean.field-0.0 c.in_err-mean.ensures.moment)

pub returns : goal.returns
returns c = whole_row c.args.line.now.text.now c.in_ok-code.code c.in_ok-code.ensures c.in_ok-point.point c.in_ok-point.ensures c.in_ok-soln.soln c.in_ok-soln.ensures c.in_ok-technique.technique c.in_ok-technique.ensures c.in_ok-start.start c.in_ok-start.ensures.moment c.in_ok-end.end c.in_ok-end.ensures.moment c.in_ok-mean.mean c.in_ok-mean.ensures.moment
