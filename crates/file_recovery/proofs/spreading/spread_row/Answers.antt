use Rattle.std.proofs.Common.{arith}
use Rattle.file_recovery.proofs.spreading.spread_row.Goals as goal

pub overflow_add-col-end : goal.overflow_add-col-end
overflow_add-col-end g c = omega (arith, c.requires.few)
