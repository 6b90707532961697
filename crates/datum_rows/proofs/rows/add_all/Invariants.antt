use Rattle.std.proofs.Common.{◌≡◌, ◌+◌, ◌*◌, ◌^◌, ℕ, length, take}
use Rattle.sym_blocks.specs.Tables.{before}
use Rattle.datum_rows.specs.Rows.{AreAllAdded, IsTableAtMost}
use Rattle.datum_rows.proofs.rows.add_all.Given as goal

abbrev pub invariant-loop-condition : goal.invariant-loop-condition
invariant-loop-condition g l = record {
  size : l.table.size ≡ l.fn.table.size;
  whole : length l.table.entries ≡ before l.table.size;
  added : AreAllAdded l.coordinates l.scales (take l.condition-index l.conditions) l.fn.table l.table;
  small : (most : ℕ) → IsTableAtMost most l.fn.table → IsTableAtMost (most + l.condition-index * 10 ^ 34) l.table;
}
