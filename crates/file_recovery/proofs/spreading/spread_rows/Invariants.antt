use Rattle.std.proofs.Common.{◌≡◌, length}
use Rattle.sym_blocks.specs.Tables.{before}
use Rattle.file_recovery.proofs.SpreadLaws.{RowsSpread}
use Rattle.file_recovery.proofs.spreading.spread_rows.Given as goal

abbrev pub invariant-loop-row : goal.invariant-loop-row
invariant-loop-row g l = record {
  size : l.table.size ≡ l.fn.table.size;
  whole : length l.table.entries ≡ before l.table.size;
  done : RowsSpread l.small l.places l.table l.row;
}
