use Rattle.std.proofs.Common.{◌∙◌, ap, sym, subst, arith}
use Rattle.std.proofs.lemmas.List.{take_all}
use Rattle.site_merge.specs.Merged.{IsEarliest, IsLatest, starts, ends, first_start, last_end}
use Rattle.site_merge.proofs.MomentLaws.{earliest_of, latest_of}
use Rattle.site_merge.proofs.spans.span.Goals as goal

pub returns-clause-earliest : goal.returns-clause-earliest
returns-clause-earliest c =
    let is = c.loop-row.invariant.start ∙ ap first_start (take_all c.loop-row.row-index c.args.epochs.now (omega arith)) in
    subst (λ m. IsEarliest (starts c.args.epochs.now) m) (sym is) (earliest_of (starts c.args.epochs.now))

pub returns-clause-latest : goal.returns-clause-latest
returns-clause-latest c =
    let is = c.loop-row.invariant.end ∙ ap last_end (take_all c.loop-row.row-index c.args.epochs.now (omega arith)) in
    subst (λ m. IsLatest (ends c.args.epochs.now) m) (sym is) (latest_of (ends c.args.epochs.now))
