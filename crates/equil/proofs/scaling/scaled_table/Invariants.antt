use Rattle.std.proofs.Common.{◌≡◌, length}
use Rattle.sym_blocks.specs.Tables.{before, entry_at}
use Rattle.equil.specs.Rows.{AreScaled}
use Rattle.equil.specs.Tables.{exponent_of}
use Rattle.equil.proofs.scaling.scaled_table.Given as goal

abbrev pub invariant-loop-row : goal.invariant-loop-row
invariant-loop-row g l = record {
  same : l.a.size ≡ l.table.size;
  list : length l.a.entries ≡ before l.a.size;
  done : AreScaled l.row l.a (entry_at l.table) (exponent_of l.e);
}
