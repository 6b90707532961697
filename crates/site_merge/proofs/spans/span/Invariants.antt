use Rattle.std.proofs.Common.{◌≡◌, take}
use Rattle.snx_epoch.specs.Moments.{IsMoment}
use Rattle.site_merge.specs.Merged.{first_start, last_end}
use Rattle.site_merge.proofs.spans.span.Given as goal

abbrev pub invariant-loop-row : goal.invariant-loop-row
invariant-loop-row l = record {
  start : l.start ≡ first_start (take l.row-index l.epochs);
  end : l.end ≡ last_end (take l.row-index l.epochs);
  start_range : IsMoment l.start;
  end_range : IsMoment l.end;
}
