use Rattle.std.proofs.Common.{[], Ok, map, take}
use Rattle.stated_order.specs.Steps.{InTurn}
use Rattle.snx_lines.specs.Views.{line_view}
use Rattle.snx_rows.specs.Blocks.{IsNextRow, AreSound}
use Rattle.snx_rows.proofs.blocks.read_rows.Given as goal

abbrev pub invariant-loop-line : goal.invariant-loop-line
invariant-loop-line l =
    InTurn (IsNextRow l.shape) [] (take l.line-index (map line_view l.body)) (Ok l.rows.items) × AreSound l.shape l.rows.items
