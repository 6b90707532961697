use Rattle.std.proofs.Common.{◌<◌, ℕ}
use Rattle.equil.specs.Tables.{table_of}
use Rattle.dominant_laws.specs.Dominant.{IsDominantRow}
use Rattle.dominant_laws.proofs.rows.dominant.Given as goal

abbrev pub invariant-loop-i : goal.invariant-loop-i
invariant-loop-i g l = (k : ℕ) → k < l.i → IsDominantRow l.w.a.size (table_of l.w.a l.w.d.items) k
