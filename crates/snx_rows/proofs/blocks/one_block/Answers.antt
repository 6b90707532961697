use Rattle.snx_rows.proofs.Alone.{rows_are_one}
use Rattle.snx_rows.proofs.blocks.one_block.Goals as goal

pub returns : goal.returns
returns c = rows_are_one
