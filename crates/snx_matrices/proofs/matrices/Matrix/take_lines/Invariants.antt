use Rattle.std.proofs.Common.{◌≡◌, Ok, map, take, length}
use Rattle.stated_order.specs.Steps.{Through}
use Rattle.snx_lines.specs.Views.{line_view}
use Rattle.snx_matrices.specs.Elements.{IsLineTaken}
use Rattle.snx_matrices.proofs.matrices.Matrix.take_lines.Given as goal

abbrev pub invariant-loop-line : goal.invariant-loop-line
invariant-loop-line l = record {
  size : l.elements.size ≡ length l.self.places;
  lines : Through (IsLineTaken l.self.triangle l.self.places) l.fn.elements.cells (map line_view (take l.line-index l.body)) (Ok l.elements.cells);
}
