use Rattle.std.proofs.Common.{◌≡◌, length}
use Rattle.sym_blocks.specs.Tables.{before}
use Rattle.equil.specs.Tables.{exponent_of}
use Rattle.inv_enclose.specs.Parts.{AreShown}
use Rattle.inv_enclose.proofs.tables.shown_inverse.Given as goal

abbrev pub invariant-loop-c : goal.invariant-loop-c
invariant-loop-c g l = record {
  size : l.out.size ≡ l.rows.table.now.size;
  whole : length l.out.entries ≡ before l.out.size;
  are : AreShown l.rows.table.now.size l.rows.table.now l.pilot l.v l.shift (exponent_of l.exponents) l.c l.out;
}
