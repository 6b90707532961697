use Rattle.std.proofs.Common.{Ok, Err, subst}
use Rattle.std.proofs.lemmas.Result.{err_from_is_err_and}
use Rattle.recover_solution.specs.Parts.{IsDiagonal, IsFirstUnfitSigma}
use Rattle.recover_solution.specs.Recovery.{IsSigmaTable}
use Rattle.recover_solution.proofs.ExactLaws.{sigmas_lie}
use Rattle.recover_solution.proofs.ExistLaws.{sigmas_constrain}
use Rattle.recover_solution.proofs.SigmaTables.{sigmas_there, sigmas_modest}
use Rattle.recover_solution.proofs.StepLaws.{refused_weaker}
use Rattle.recover_solution.proofs.constraints.sigma_table.Goals as goal

pub returns-in_err-intervals-clause-refused : goal.returns-in_err-intervals-clause-refused
returns-in_err-intervals-clause-refused g c =
    let apriori = c.args.apriori.now in
    let weight = c.args.weight.now in
    let scales = c.args.scales.now in
    let names = c.args.names.now in
    let from = err_from_is_err_and c.from_residual.result c.from_residual.ensures.1 in
    rw (from.1, from.2) (refused_weaker (λ fault. IsFirstUnfitSigma apriori weight scales names fault) (λ fault. IsSigmaTable apriori weight scales names (Err fault))
    (λ fault. sigmas_there apriori weight scales names c.requires.names (Err fault)) c.in_err-intervals.field-0.0 c.in_err-intervals.ensures.refused)

pub returns-clause-table : goal.returns-clause-table
returns-clause-table g c =
    sigmas_there c.args.apriori.now c.args.weight.now c.args.scales.now c.args.names.now c.requires.names (Ok c.in_ok-diagonal.field-0) (
      c.in_ok-intervals.intervals.items,
      c.in_ok-intervals.ensures.len,
      c.in_ok-intervals.ensures.each,
      subst (λ l. IsDiagonal l c.in_ok-diagonal.field-0) c.deref.ensures.value c.in_ok-diagonal.ensures,
    )

pub returns-clause-lies : goal.returns-clause-lies
returns-clause-lies g c = sigmas_lie c.args.apriori.now c.args.weight.now c.args.scales.now c.args.names.now c.requires.named c.in_ok-diagonal.field-0 (returns-clause-table g c).0

pub returns-clause-exists : goal.returns-clause-exists
returns-clause-exists g c = sigmas_constrain c.args.apriori.now c.args.weight.now

pub returns-clause-modest : goal.returns-clause-modest
returns-clause-modest g c = sigmas_modest c.args.apriori.now c.args.weight.now c.args.scales.now c.args.names.now c.in_ok-diagonal.field-0 (returns-clause-table g c)
