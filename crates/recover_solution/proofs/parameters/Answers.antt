use Rattle.std.proofs.Common.{inr, refl}
use Rattle.std.proofs.lemmas.Result.{err_from_is_err_and}
use Rattle.recover_solution.specs.Views.{solution_view}
use Rattle.recover_solution.proofs.StepLaws.{unestimated_stops, empty_stops, parameters_there}
use Rattle.recover_solution.proofs.parameters.Goals as goal

pub returns-in_err-estimated-clause-refused : goal.returns-in_err-estimated-clause-refused
returns-in_err-estimated-clause-refused c =
    let solution = solution_view c.args.solution.now in
    let from = err_from_is_err_and c.from_residual-in_err-estimated.result c.from_residual-in_err-estimated.ensures.1 in
    rw (from.1, from.2) (inr (c.in_err-estimated.field-0.0, refl, unestimated_stops solution c.in_ok-all_matched.ensures.ok c.in_err-estimated.field-0.0 c.in_err-estimated.ensures))

pub returns-in_err-some_row-clause-refused : goal.returns-in_err-some_row-clause-refused
returns-in_err-some_row-clause-refused c =
    let solution = solution_view c.args.solution.now in
    let from = err_from_is_err_and c.from_residual-in_err-some_row.result c.from_residual-in_err-some_row.ensures.1 in
    rw (from.1, from.2) (inr (c.in_err-some_row.field-0.0, refl, empty_stops solution c.in_ok-all_matched.ensures.ok c.in_ok-estimated.ensures c.in_err-some_row.field-0.0 c.in_err-some_row.ensures))

pub returns-clause-names : goal.returns-clause-names
returns-clause-names c = parameters_there (solution_view c.args.solution.now) c.in_ok-all_matched.ensures.ok c.in_ok-estimated.ensures c.in_ok-some_row.ensures c.in_ok-names.names c.in_ok-names.ensures
