use Rattle.std.proofs.Common.{◌≡◌, map, drop}
use Rattle.snx_rows.specs.Named.{row_of}
use Rattle.named_tables.proofs.naming.rows_by_name.Given as goal

abbrev pub invariant-loop-place : goal.invariant-loop-place
invariant-loop-place l = l.found.items ≡ map (row_of (drop l.place l.rows)) l.names
