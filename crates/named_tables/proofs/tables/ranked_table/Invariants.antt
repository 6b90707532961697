use Rattle.std.proofs.Common.{◌≡◌, length, drop}
use Rattle.sym_blocks.specs.Tables.{before}
use Rattle.named_tables.specs.Parts.{ShowsEntries}
use Rattle.named_tables.proofs.tables.ranked_table.Given as goal

abbrev pub invariant-loop-place : goal.invariant-loop-place
invariant-loop-place g l = record {
  size : l.table.size ≡ length l.exponents;
  whole : length l.table.entries ≡ before l.table.size;
  shown : ShowsEntries l.content l.weight (drop l.place l.cells) l.ranks l.exponents l.table;
}
