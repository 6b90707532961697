use Rattle.std.proofs.Common.{◌≡◌, Ok, Err, arith}
use Rattle.std.proofs.lemmas.Result.{err_from_is_err_and}
use Rattle.snx_rows.specs.declared.rows.Shape.TheVariants.{Value}
use Rattle.neq_stack.specs.Neqs.{neq_view}
use Rattle.named_tables.specs.Weighted.{scale_of}
use Rattle.neq_stack.specs.Systems.{LiesInNeq}
use Rattle.named_tables.proofs.MatchLaws.{names_cover}
use Rattle.information_tables.specs.Tables.{IsInformationTable}
use Rattle.recover_solution.specs.Recovery.{IsFreed}
use Rattle.recover_solution.specs.Views.{solution_view}
use Rattle.recover_solution.proofs.StepLaws.{paired, refused_weaker}
use Rattle.file_recovery.specs.Solved.{IsConstraintTable, IsSolved}
use Rattle.file_recovery.proofs.SolvedLaws.{table_stops, constraints_stop, solved_by, exact_solution_exists, of_exact_solution}
use Rattle.file_recovery.proofs.recovering.solved.Goals as goal

pub information_of-requires-after_bounds : goal.information_of-requires-after_bounds
information_of-requires-after_bounds g c κs within =
    let solution = solution_view c.args.solution.now in
    let names = c.in_ok-names.names in
    let named = (paired solution names c.in_ok-names.ensures.names).named in
    (omega arith, ((Value, c.requires.read.estimates), (c.requires.read.cells, (named.1, (names_cover solution.estimates names solution.cells named c.requires.read.cells, (c.requires.weight, (c.requires.some_workers, c.requires.few_workers)))))))

pub returns-in_err-information-clause-refused : goal.returns-in_err-information-clause-refused
returns-in_err-information-clause-refused g c =
    let solution = solution_view c.args.solution.now in
    let weight = c.args.weight.now in
    let scales = c.args.scales.now in
    let names = c.in_ok-names.names in
    let from = err_from_is_err_and c.from_residual-in_err-information.result c.from_residual-in_err-information.ensures.1 in
    rw (from.1, from.2) (refused_weaker (λ fault. IsInformationTable solution.content solution.estimates solution.cells weight scales names (Err fault)) (λ fault. IsSolved solution weight scales (Err fault))
    (table_stops solution weight scales names c.in_ok-names.ensures.names) c.in_err-information.field-0.0 c.in_err-information.ensures.refused)

pub returns-in_err-removed-clause-refused : goal.returns-in_err-removed-clause-refused
returns-in_err-removed-clause-refused g c =
    let solution = solution_view c.args.solution.now in
    let weight = c.args.weight.now in
    let scales = c.args.scales.now in
    let names = c.in_ok-names.names in
    let from = err_from_is_err_and c.from_residual-in_err-removed.result c.from_residual-in_err-removed.ensures.1 in
    rw (from.1, from.2) (refused_weaker (λ fault. IsConstraintTable solution.constraint solution.apriori weight scales names (Err fault)) (λ fault. IsSolved solution weight scales (Err fault))
    (constraints_stop solution weight scales names c.in_ok-names.ensures.names c.in_ok-information.information c.in_ok-information.ensures.table) c.in_err-removed.field-0.0 c.in_err-removed.ensures.refused)

pub returns-in_err-neq-clause-refused : goal.returns-in_err-neq-clause-refused
returns-in_err-neq-clause-refused g c =
    let solution = solution_view c.args.solution.now in
    let weight = c.args.weight.now in
    let scales = c.args.scales.now in
    let names = c.in_ok-names.names in
    let table = c.in_ok-information.information in
    let removed = c.in_ok-removed.removed in
    let from = err_from_is_err_and c.from_residual-in_err-neq.result c.from_residual-in_err-neq.ensures.1 in
    rw (from.1, from.2) (refused_weaker (λ fault. IsFreed solution scales names table removed (Err fault)) (λ fault. IsSolved solution weight scales (Err fault))
    (λ fault. solved_by solution weight scales names c.in_ok-names.ensures.names table c.in_ok-information.ensures.table removed c.in_ok-removed.ensures.known.is (Err fault)) c.in_err-neq.field-0.0 c.in_err-neq.ensures.refused)

pub returns-clause-known : goal.returns-clause-known
returns-clause-known g c =
    let solution = solution_view c.args.solution.now in
    let weight = c.args.weight.now in
    let scales = c.args.scales.now in
    let names = c.in_ok-names.names in
    let named = (paired solution names c.in_ok-names.ensures.names).named in
    let table = c.in_ok-information.information in
    let made = c.in_ok-information.ensures in
    let removed = c.in_ok-removed.removed in
    let told = c.in_ok-removed.ensures.known in
    let neq = neq_view c.in_ok-neq.neq in
    let left = c.in_ok-neq.ensures in
    record {
      recovers = solved_by solution weight scales names c.in_ok-names.ensures.names table made.table removed told.is (Ok neq) left.freed;
      sound = left.sound;
      exact = of_exact_solution (λ S. LiesInNeq (scale_of scales) neq S) solution weight names named (λ E K S information E_right constraints K_right freed.
          left.lies E K S E_right K_right (made.lies E information) (told.lies K constraints) freed);
      exact_exists = exact_solution_exists solution weight names named made.exists told.exists;
      modest = left.modest;
      exponents = left.exponents;
    }
