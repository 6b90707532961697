use Rattle.std.proofs.Common.{◌≡◌, ◌<◌, ℕ, All}
use Rattle.std.specs.Vec.{vec_len}
use Rattle.equil.specs.Tables.{table_of}
use Rattle.bounds_report.specs.Printing.{numbers_at, HasSmallDeviation}
use Rattle.bounds_report.specs.Residuals.{numbers_from}
use Rattle.bounds_report.proofs.printing.all_numbers.Given as goal

abbrev pub invariant-loop-i : goal.invariant-loop-i
invariant-loop-i g l = record {
  len : vec_len l.all ≡ l.i;
  rows : (i : ℕ) → i < l.i → numbers_at l.all.items i ≡ numbers_from l.w.a.size (table_of l.w.a l.w.d.items) l.rows l.ends l.zs i;
  deviations : All HasSmallDeviation l.all.items;
}
