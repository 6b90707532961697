use Rattle.recover_solution.specs.Solutions.{is_constrained}
use Rattle.recover_solution.specs.Views.{constraint_view}
use Rattle.named_tables.specs.Naming.{lacks_row}
use Rattle.recover_solution.proofs.EstimateLaws.{none_and, all_and}
use Rattle.recover_solution.proofs.names.is_lacking.Goals as goal

pub returns-then-not-lacks : goal.returns-then-not-lacks
returns-then-not-lacks c = λ apriori others place named.
    none_and (is_constrained (constraint_view c.args.constraint.now) apriori c.args.row.now) (lacks_row others c.args.row.now) c.lacks.result (c.lacks.ensures others named) c.if-not-lacks.true

pub returns : goal.returns
returns c = λ apriori others place named.
    all_and (is_constrained (constraint_view c.args.constraint.now) apriori c.args.row.now) (lacks_row others c.args.row.now) c.lacks.result c.is_constrained.result (c.lacks.ensures others named) c.if-not-lacks.false (c.is_constrained.ensures apriori place)
