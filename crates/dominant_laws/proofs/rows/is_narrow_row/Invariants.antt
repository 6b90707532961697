use Rattle.std.proofs.Common.{◌<◌, ℕ}
use Rattle.sym_blocks.specs.Tables.{entry_at}
use Rattle.dominant_laws.specs.Dominant.{IsNarrow}
use Rattle.dominant_laws.proofs.rows.is_narrow_row.Given as goal

abbrev pub invariant-loop-j : goal.invariant-loop-j
invariant-loop-j g l = (k : ℕ) → k < l.j → IsNarrow (entry_at l.w.a l.i k)
