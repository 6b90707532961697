-- The lines so far, and one more.
use Rattle.std.proofs.Common.{◌≡◌, ◌<◌, ◌+◌, ◌∷◌, ◌++◌, ◌∙◌, ℕ, List, length, take, drop, get_or, map, Result, Ok, Err, sym, ap, subst, add-one, drop-cons}
use Rattle.std.proofs.lemmas.List.{map_more, take-append-drop, map-append}
use Rattle.stated_order.specs.Steps.{Through}
use Rattle.stated_order.proofs.StepLaws.{through_more, through_stops}
use Rattle.snx_lines.specs.Lines.{PlainLine}
use Rattle.snx_lines.specs.Views.{line_view}
use Rattle.snx_lines.specs.declared.columns.Line.{Line}
use Rattle.snx_rows.specs.declared.causes.DocError.{DocError}
use Rattle.snx_rows.specs.declared.causes.DocError.TheVariants as errors
use Rattle.snx_rows.specs.declared.causes.LineFault.{LineFault}
use Rattle.snx_rows.specs.declared.rows.Row.{Row}
use Rattle.snx_matrices.specs.Elements.{IsLineTaken}
use Rattle.snx_matrices.specs.Passing.{LeavesLine}
use Rattle.snx_matrices.specs.declared.elements.Triangle.{Triangle}
use Rattle.snx_matrices.specs.declared.elements.Cell.{Cell}

-- a list at one of its members
split_at : (body : List Line) (i : ℕ) (d : Line) → i < length body → map line_view body ≡ map line_view (take i body) ++ (line_view (get_or body i d) ∷ map line_view (drop (i + 1) body))
split_at body i d l =
    let rest : drop i body ≡ get_or body i d ∷ drop (i + 1) body = rw (add-one, drop-cons body i d) in
    ap (map line_view) (sym (take-append-drop i body)) ∙ map-append line_view (take i body) (drop i body) ∙ ap (λ (r : List Line). map line_view (take i body) ++ map line_view r) rest

module _ (triangle : Triangle) (rows : List Row) (before so_far : List Cell) (body : List Line) (i : ℕ) (d : Line) (within : i < length body) (stands : Through (IsLineTaken triangle rows) before (map line_view (take i body)) (Ok so_far)) where
  pub lines_more : (r : Result (List Cell) LineFault) → IsLineTaken triangle rows so_far (line_view (get_or body i d)) r → Through (IsLineTaken triangle rows) before (map line_view (take (i + 1) body)) r
  lines_more r here =
      subst (λ (lines : List PlainLine). Through (IsLineTaken triangle rows) before lines r) (sym (map_more line_view body i d within))
      (through_more (IsLineTaken triangle rows) before so_far (map line_view (take i body)) (line_view (get_or body i d)) r stands here)

  pub lines_stop : (after last : List Cell) (error : DocError) → LeavesLine after (IsLineTaken triangle rows so_far (line_view (get_or body i d))) (Err error)
      → LeavesLine last (Through (IsLineTaken triangle rows) before (map line_view body)) (Err error)
  lines_stop after last (errors.Line fault) here =
      subst (λ (lines : List PlainLine). Through (IsLineTaken triangle rows) before lines (Err fault)) (sym (split_at body i d within))
      (through_stops (IsLineTaken triangle rows) before so_far (map line_view (take i body)) (map line_view (drop (i + 1) body)) (line_view (get_or body i d)) fault stands here)
  lines_stop after last errors.Memory here = tt
