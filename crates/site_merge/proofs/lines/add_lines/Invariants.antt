use Rattle.std.proofs.Common.{◌++◌, List, map, take}
use Rattle.snx_sites.specs.Plain.{PlainSite}
use Rattle.snx_sites.specs.Views.{site_view}
use Rattle.site_merge.specs.Keyed.{HasFirstLines}
use Rattle.site_merge.proofs.lines.add_lines.Given as goal

abbrev pub invariant-loop-line : goal.invariant-loop-line
invariant-loop-line l = (before : List PlainSite) → HasFirstLines l.fn.table before → HasFirstLines l.table (before ++ map site_view (take l.line-index l.lines))
