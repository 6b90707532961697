use Rattle.std.proofs.Common.{[], Ok, map, take}
use Rattle.stated_order.specs.Steps.{InTurn}
use Rattle.snx_lines.specs.Views.{line_view}
use Rattle.snx_sites.specs.Sites.{IsSite}
use Rattle.snx_sites.specs.Views.{site_view}
use Rattle.snx_sites.proofs.sites.read_sites.Given as goal

abbrev pub invariant-loop-line : goal.invariant-loop-line
invariant-loop-line l = InTurn (λ before. IsSite) [] (take l.line-index (map line_view l.body)) (Ok (map site_view l.sites.items))
