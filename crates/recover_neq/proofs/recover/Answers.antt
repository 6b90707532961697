use Rattle.std.proofs.lemmas.Result.{IfOk-weaker, IfErr-weaker, err_from_is_err_and}
use Rattle.neq_stack.specs.Neqs.{neq_view}
use Rattle.recover_neq.specs.Blocks.{blocks_of}
use Rattle.recover_neq.proofs.LawExact.{exact_lies}
use Rattle.recover_neq.proofs.NamedLaws.{named_at_most}
use Rattle.recover_neq.proofs.RecoverLaws.{no_row, past}
use Rattle.recover_neq.proofs.recover.Goals as goal

pub returns-in_err-some_row-clause-refused : goal.returns-in_err-some_row-clause-refused
returns-in_err-some_row-clause-refused g c =
    let from = err_from_is_err_and c.from_residual-in_err-some_row.result c.from_residual-in_err-some_row.ensures.1 in
    rw (from.1, from.2) (no_row (blocks_of c.args.apriori.now c.args.vector.now c.args.cells.now) c.args.weight.now c.args.scales.now c.in_ok-all_matched.ensures.ok c.in_err-some_row.field-0.0 c.in_err-some_row.ensures)

pub returns-clause-refused : goal.returns-clause-refused
returns-clause-refused g c =
    IfErr-weaker c.equations.result _ _ (past (blocks_of c.args.apriori.now c.args.vector.now c.args.cells.now) c.args.weight.now c.args.scales.now c.in_ok-all_matched.ensures.ok c.in_ok-some_row.ensures) c.equations.ensures.refused

pub returns-clause-exact : goal.returns-clause-exact
returns-clause-exact g c =
    IfOk-weaker c.equations.result _ _ (λ neq. exact_lies (blocks_of c.args.apriori.now c.args.vector.now c.args.cells.now) c.args.weight.now c.args.scales.now (neq_view neq) c.requires.vector c.requires.cells) c.equations.ensures.named

pub returns-clause-modest : goal.returns-clause-modest
returns-clause-modest g c =
    IfOk-weaker c.equations.result _ _ (λ neq. named_at_most (blocks_of c.args.apriori.now c.args.vector.now c.args.cells.now) c.args.weight.now c.args.scales.now (neq_view neq)) c.equations.ensures.named
