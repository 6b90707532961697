use Rattle.std.proofs.Common.{◌≡◌, ◌<◌, ◌/◌, ◌%◌, ℕ}
use Rattle.std.specs.Vec.{vec_len}
use Rattle.sym_blocks.specs.Tables.{entry_at}
use Rattle.enclosure_check.specs.Rows.{entry_between}
use Rattle.enclosure_check.proofs.working_rows.WorkingRows.of.Given as goal

abbrev pub invariant-loop-place : goal.invariant-loop-place
invariant-loop-place g l = record {
  lows : vec_len l.low ≡ l.place;
  highs : vec_len l.high ≡ l.place;
  entries : (x : ℕ) → x < l.place → entry_between l.low.items l.high.items x ≡ entry_at l.a (x / l.size) (x % l.size);
}
