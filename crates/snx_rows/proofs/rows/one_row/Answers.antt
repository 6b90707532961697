use Rattle.snx_rows.proofs.Alone.{row_is_one}
use Rattle.snx_rows.proofs.rows.one_row.Goals as goal

pub returns : goal.returns
returns c = row_is_one
