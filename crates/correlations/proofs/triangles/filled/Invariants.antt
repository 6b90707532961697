use Rattle.std.proofs.Common.{◌≡◌, length}
use Rattle.sym_blocks.specs.Tables.{before}
use Rattle.correlations.specs.Parts.{AreFilled}
use Rattle.correlations.proofs.triangles.filled.Given as goal

abbrev pub invariant-loop-row : goal.invariant-loop-row
invariant-loop-row g l = record {
  size : l.table.size ≡ l.given.size;
  whole : length l.table.entries ≡ before l.table.size;
  rows : AreFilled l.given l.deviations l.exponents l.row l.table;
}
