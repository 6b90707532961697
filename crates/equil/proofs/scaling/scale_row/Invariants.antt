use Rattle.std.proofs.Common.{◌≡◌, length}
use Rattle.sym_blocks.specs.Tables.{before, entry_at}
use Rattle.equil.specs.Rows.{IsRowScaled, KeepsRows}
use Rattle.equil.specs.Tables.{exponent_of}
use Rattle.equil.proofs.scaling.scale_row.Given as goal

abbrev pub invariant-loop-j : goal.invariant-loop-j
invariant-loop-j g l = record {
  same : l.a.size ≡ l.fn.a.size;
  kept : KeepsRows l.i l.fn.a l.a;
  list : length l.fn.a.entries ≡ before l.fn.a.size → length l.a.entries ≡ before l.a.size;
  done : IsRowScaled l.i l.j l.a (entry_at l.table) (exponent_of l.e);
}
