use Rattle.std.proofs.Common.{◌∙◌, ap, map}
use Rattle.std.specs.BTreeMap.{values}
use Rattle.std.specs.Map.Iter.{deref}
use Rattle.std.proofs.lemmas.Map.Iter.{iter_end}
use Rattle.site_merge.proofs.LineLaws.{shown}
use Rattle.site_merge.proofs.lines.lines_in.Goals as goal

pub returns-clause-lines : goal.returns-clause-lines
returns-clause-lines c =
    let all = iter_end deref (values c.args.table.now) c.loop-line.yielded c.into_iter-line-iterator.result c.loop-line.line-iterator c.next.new.self c.next.result
    (c.into_iter-line-iterator.ensures.into_iter_gives ∙ c.values-line-items.ensures.rest) c.loop-line.yielded_by c.in-None.is c.next.ensures.steps in
    c.loop-line.invariant ∙ ap (map shown) all.0
