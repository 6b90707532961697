use Rattle.std.proofs.Common.{◌≡◌, slice_index_or}
use Rattle.std.specs.Vec.{vec_len}
use Rattle.sym_blocks.specs.Tables.{zero_interval}
use Rattle.equil.specs.Rows.{IsRightScaled}
use Rattle.equil.specs.Tables.{exponent_of}
use Rattle.equil.proofs.scaling.scaled_right.Given as goal

abbrev pub invariant-loop-row : goal.invariant-loop-row
invariant-loop-row l = record {
  len : vec_len l.d ≡ l.row;
  done : IsRightScaled l.row l.d.items (λ k. slice_index_or l.right k zero_interval) (exponent_of l.e);
}
