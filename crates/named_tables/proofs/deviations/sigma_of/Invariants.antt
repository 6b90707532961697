use Rattle.std.proofs.Common.{◌≡◌, None, take}
use Rattle.std.specs.List.{find}
use Rattle.snx_rows.specs.Named.{is_row_of}
use Rattle.named_tables.proofs.deviations.sigma_of.Given as goal

abbrev pub invariant-loop-row : goal.invariant-loop-row
invariant-loop-row l = find (is_row_of l.id) (take l.row-index l.rows) ≡ None
