use Rattle.std.proofs.Common.{◌≡◌, map}
use Rattle.std.specs.Map.Iter.{deref}
use Rattle.snx_sites.specs.Views.{site_view}
use Rattle.site_merge.proofs.LineLaws.{shown}
use Rattle.site_merge.proofs.lines.lines_in.Given as goal

abbrev pub invariant-loop-line : goal.invariant-loop-line
invariant-loop-line l = map site_view l.lines.items ≡ map shown (map deref l.yielded)
