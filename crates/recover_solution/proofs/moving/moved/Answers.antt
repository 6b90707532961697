use Rattle.std.proofs.Common.{◌^◌, All, sym, ap, subst, arith}
use Rattle.std.proofs.lemmas.Result.{err_from_is_err_and}
use Rattle.neq_stack.specs.ByName.{AreAtMost}
use Rattle.neq_stack.specs.Neqs.{PlainNeq, IsSound, neq_view}
use Rattle.param_ids.specs.Tables.{IsScale}
use Rattle.snx_rows.specs.Named.{value_of}
use Rattle.recover_solution.specs.Recovery.{at_estimates}
use Rattle.recover_solution.specs.Views.{solution_view}
use Rattle.recover_solution.proofs.MovingLaws.{estimates_sound, estimates_at_most, moved_from, refused_from}
use Rattle.recover_solution.proofs.moving.moved.Goals as goal

pub shifted-requires : goal.shifted-requires
shifted-requires g c =
    let solution = solution_view c.args.solution.now in
    let scales = c.args.scales.now in
    let made = c.in_ok-neq.ensures.made in
    let scaled = subst (All IsScale) (ap (λ (n : PlainNeq). n.scales) made) c.in_ok-neq.ensures.scaled in (
      omega arith,
      (
        c.requires.apriori,
        (
          subst IsSound (sym made) (estimates_sound solution scales c.args.names c.args.table c.requires.names c.requires.size c.requires.lower c.requires.estimates scaled),
          subst (AreAtMost (10 ^ 34)) (sym made) (estimates_at_most solution scales c.args.names c.args.table c.requires.names c.requires.size c.requires.modest),
        ),
      ),
    )

pub returns-in_err-shifted-clause-refused : goal.returns-in_err-shifted-clause-refused
returns-in_err-shifted-clause-refused g c =
    let solution = solution_view c.args.solution.now in
    let from = err_from_is_err_and c.from_residual-in_err-shifted.result c.from_residual-in_err-shifted.ensures.1 in
    rw (from.1, from.2) (refused_from (value_of solution.apriori) (neq_view c.in_ok-neq.neq) (at_estimates solution c.args.scales.now c.args.names c.args.table) c.in_err-shifted.field-0.0 c.in_ok-neq.ensures.made c.in_err-shifted.ensures.refused)

pub returns-clause-moved : goal.returns-clause-moved
returns-clause-moved g c =
    let solution = solution_view c.args.solution.now in
    moved_from (value_of solution.apriori) (neq_view c.in_ok-neq.neq) (at_estimates solution c.args.scales.now c.args.names c.args.table) (neq_view c.shifted.new.neq) c.in_ok-neq.ensures.made c.in_ok-shifted.ensures.shifted
