use Rattle.std.proofs.Common.{◌≡◌}
use Rattle.std.specs.Vec.{vec_len}
use Rattle.sym_blocks.specs.Tables.{entry_at}
use Rattle.equil.specs.Rows.{AllInRange}
use Rattle.equil.specs.Tables.{exponent_of, AreExponents}
use Rattle.equil.proofs.scaling.exponents.Given as goal

abbrev pub invariant-loop-i : goal.invariant-loop-i
invariant-loop-i g l = record {
  len : vec_len l.e ≡ l.i;
  are : AreExponents l.i (entry_at l.table) (exponent_of l.e.items);
  range : AllInRange l.e.items;
}
