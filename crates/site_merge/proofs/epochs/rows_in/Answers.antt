use Rattle.std.proofs.Common.{◌∙◌}
use Rattle.std.specs.BTreeMap.{values}
use Rattle.std.specs.Map.Iter.{deref}
use Rattle.std.proofs.lemmas.Map.Iter.{iter_end}
use Rattle.site_merge.proofs.epochs.rows_in.Goals as goal

pub returns-clause-rows : goal.returns-clause-rows
returns-clause-rows c =
    let all = iter_end deref (values c.args.table.now) c.loop-row.yielded c.into_iter-row-iterator.result c.loop-row.row-iterator c.next.new.self c.next.result
    (c.into_iter-row-iterator.ensures.into_iter_gives ∙ c.values-row-items.ensures.rest) c.loop-row.yielded_by c.in-None.is c.next.ensures.steps in
    c.loop-row.invariant ∙ all.0
