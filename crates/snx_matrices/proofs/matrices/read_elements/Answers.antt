use Rattle.std.proofs.Common.{◌≡◌, List, [], Ok, map, length, subst, sym}
use Rattle.stated_order.specs.Steps.{Through}
use Rattle.snx_lines.specs.Lines.{PlainLine}
use Rattle.snx_lines.specs.Views.{line_view}
use Rattle.snx_rows.specs.declared.rows.Row.{Row}
use Rattle.snx_matrices.specs.Elements.{IsLineTaken, AreElements, AreElementsOf}
use Rattle.snx_matrices.specs.declared.elements.Triangle.{Triangle}
use Rattle.snx_matrices.specs.declared.elements.Cell.{Cell}
use Rattle.snx_matrices.proofs.KeptLaws.{elements_keep}
use Rattle.snx_matrices.proofs.matrices.read_elements.Goals as goal

-- the lines were taken over the places of the rows, from no elements on
over_rows : (triangle : Triangle) (rows places : List Row) (before cells : List Cell) (lines : List PlainLine) → places ≡ rows → before ≡ [] → Through (IsLineTaken triangle places) before lines (Ok cells) → AreElements triangle rows lines (Ok cells)
over_rows triangle rows places before cells lines same none h =
    subst (λ (p : List Row). Through (IsLineTaken triangle p) [] lines (Ok cells)) same (subst (λ (b : List Cell). Through (IsLineTaken triangle places) b lines (Ok cells)) none h)

pub returns-clause-kept : goal.returns-clause-kept
returns-clause-kept c =
    let rows = c.args.rows.now in
    let lines = map line_view c.args.body.now in
    let cells = c.take_lines.new.elements.cells in
    let elements = over_rows c.args.triangle rows c.in_ok-new.field-0 c.in_ok-elements.elements.cells cells lines c.in_ok-new.ensures c.in_ok-elements.ensures.cells c.in_ok-take_lines.ensures.lines in
    subst (λ (xs : List Cell). AreElementsOf (length rows) xs) (sym c.into_cells.ensures) (elements_keep c.args.triangle rows c.requires.1.indices lines cells elements)
