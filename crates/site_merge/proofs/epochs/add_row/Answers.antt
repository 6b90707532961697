use Rattle.std.proofs.Common.{◌≡◌, ◌∙◌, Some, cond, sym, ap, subst}
use Rattle.std.specs.BTreeMap.{get}
use Rattle.std.specs.Ordering.{is_eq}
use Rattle.site_merge.specs.Keyed.{IsWithMean, joined_to, solution_name_cmp}
use Rattle.site_merge.specs.declared.names.SolutionName.{SolutionName}
use Rattle.site_merge.proofs.EpochLaws.{rows_more}
use Rattle.site_merge.proofs.Loops.{puts_after}
use Rattle.site_merge.proofs.epochs.add_row.Goals as goal

pub returns : goal.returns
returns c = λ before has.
    let table = c.args.table.now in
    let row = c.args.row.now in
    rows_more table c.insert.new.self before row c.with_mean-merged.result has
    (subst (λ joined. IsWithMean joined c.with_mean-merged.result) (c.joined_in-joined.ensures ∙ ap (λ (n : SolutionName). joined_to (get solution_name_cmp table n) row) c.of-name.ensures) c.with_mean-merged.ensures)
    (subst (λ (n : SolutionName). (q : SolutionName) → get solution_name_cmp c.insert.new.self q ≡ cond (is_eq (solution_name_cmp n q)) (Some c.with_mean-merged.result) (get solution_name_cmp table q)) c.of-name.ensures
    (puts_after solution_name_cmp c.insert.result table c.insert.new.self c.of-name.result c.with_mean-merged.result c.insert.ensures.updates (sym c.if-is_err.ensures.value)))
