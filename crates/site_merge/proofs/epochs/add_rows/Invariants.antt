use Rattle.std.proofs.Common.{◌++◌, List, take}
use Rattle.snx_sites.specs.Plain.{PlainEpochRow}
use Rattle.site_merge.specs.Keyed.{HasMergedRows}
use Rattle.site_merge.proofs.epochs.add_rows.Given as goal

abbrev pub invariant-loop-row : goal.invariant-loop-row
invariant-loop-row l = (before : List PlainEpochRow) → HasMergedRows l.fn.table before → HasMergedRows l.table (before ++ take l.row-index l.rows)
