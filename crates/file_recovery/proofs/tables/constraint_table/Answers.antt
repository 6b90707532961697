use Rattle.std.proofs.Common.{◌≡◌, IfOk, ap, sym, subst, arith}
use Rattle.std.proofs.lemmas.Result.{IfOk-weaker}
use Rattle.recover_solution.specs.Solutions.{Free, Matrix, Sigmas}
use Rattle.recover_solution.specs.Views.{constraint_view, solution_view, IsConstraintOver}
use Rattle.recover_solution.proofs.EstimateLaws.{cells_named, deviations_named}
use Rattle.file_recovery.specs.Parts.{IsConstraintTableOf}
use Rattle.file_recovery.proofs.tables.constraint_table.Goals as goal

pub matrix_table-requires-after_bounds : goal.matrix_table-requires-after_bounds
matrix_table-requires-after_bounds g c κs within =
    let solution = solution_view c.args.solution.now in
    let cells = c.in-Matrix.cells.now in
    let is : solution.constraint ≡ Matrix c.in-Matrix.content cells = ap constraint_view c.in-Matrix.is in (
      omega arith,
      (
        c.requires.read.apriori,
        (
          subst (λ k. IsConstraintOver k solution) is c.requires.read.constraint,
          (
            c.requires.names.1,
            (
              cells_named solution c.args.names.now c.requires.names c.requires.estimated c.in-Matrix.content cells is c.requires.read.apriori.names,
              (c.requires.weight, (c.requires.some_workers, c.requires.few_workers)),
            ),
          ),
        ),
      ),
    )

pub sigma_table-requires : goal.sigma_table-requires
sigma_table-requires g c =
    let solution = solution_view c.args.solution.now in
    let is : solution.constraint ≡ Sigmas = ap constraint_view c.in-Sigmas.is in
    (omega arith, (c.requires.weight, (c.requires.read.deviations, (c.requires.names.1, deviations_named solution c.args.names.now c.requires.names c.requires.estimated is))))

pub returns-in-Free-clause-known : goal.returns-in-Free-clause-known
returns-in-Free-clause-known g c =
    let solution = solution_view c.args.solution.now in
    let is : solution.constraint ≡ Free = ap constraint_view c.in-Free.is in
    subst (λ k. IfOk c.zero_table.result (λ table. IsConstraintTableOf k solution.apriori c.args.weight.now c.args.scales.now c.args.names.now table)) (sym is)
    (IfOk-weaker c.zero_table.result _ (λ table. IsConstraintTableOf Free solution.apriori c.args.weight.now c.args.scales.now c.args.names.now table) (λ table h. h solution.apriori c.args.weight.now c.args.scales.now) c.zero_table.ensures.known)
