use Rattle.std.proofs.Common.{[], Ok, map, take}
use Rattle.stated_order.specs.Steps.{InTurn}
use Rattle.snx_lines.specs.Views.{line_view}
use Rattle.snx_sites.specs.Sites.{IsEpochRow}
use Rattle.snx_sites.proofs.epochs.read_epochs.Given as goal

abbrev pub invariant-loop-line : goal.invariant-loop-line
invariant-loop-line l = InTurn (λ before. IsEpochRow) [] (take l.line-index (map line_view l.body)) (Ok l.rows.items)
