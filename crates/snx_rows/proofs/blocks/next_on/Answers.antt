use Rattle.std.proofs.lemmas.Result.{err_from_is_err_and}
use Rattle.stated_order.specs.Steps.{Then}
use Rattle.stated_order.proofs.StepLaws.{then_gives, then_stops}
use Rattle.snx_lines.specs.Views.{line_view}
use Rattle.snx_rows.specs.Rows.{IsRead}
use Rattle.snx_rows.specs.Blocks.{IsNew, HasRoom}
use Rattle.snx_rows.proofs.blocks.next_on.Goals as goal

pub returns-in_err-row-2 : goal.returns-in_err-row-2
returns-in_err-row-2 c =
    let before = c.args.before.now in
    let from = err_from_is_err_and c.from_residual-in_err-row-2.result c.from_residual-in_err-row-2.ensures.1 in
    rw (from.1, from.2)
    (then_gives (IsRead c.args.shape (line_view c.args.line.now)) (λ row. Then (IsNew before row) (HasRoom before)) c.in_ok-row.row _ c.in_ok-row.ensures
    (then_stops (IsNew before c.in_ok-row.row) (HasRoom before) c.in_err-row-2.field-0.0 c.in_err-row-2.ensures))
