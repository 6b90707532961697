use Rattle.std.proofs.Common.{◌≡◌, ◌<◌, ℕ, false, get_or}
use Rattle.snx_rows.specs.Named.{is_row_of}
use Rattle.snx_rows.specs.declared.rows.Row.{Row}
use Rattle.correlations.proofs.deviations.place_of.Given as goal

abbrev pub invariant-loop-place : goal.invariant-loop-place
invariant-loop-place l = (k : ℕ) (d : Row) → k < l.place → is_row_of l.id (get_or l.rows k d) ≡ false
