use Rattle.equil.specs.Tables.{table_of}
use Rattle.enclosure_check.proofs.VectorLaws.{IsVectorAfter}
use Rattle.enclosure_check.proofs.vector.start_vector.Given as goal

abbrev pub invariant-loop-k : goal.invariant-loop-k
invariant-loop-k g l = IsVectorAfter l.rows.table.now.size (table_of l.rows.table.now l.d) l.p l.k l.y.items
