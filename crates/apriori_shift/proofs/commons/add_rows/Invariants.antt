use Rattle.std.proofs.Common.{◌++◌, List, take}
use Rattle.snx_rows.specs.declared.rows.Row.{Row}
use Rattle.apriori_shift.specs.Firsts.{Stands}
use Rattle.apriori_shift.proofs.commons.add_rows.Given as goal

abbrev pub invariant-loop-row : goal.invariant-loop-row
invariant-loop-row l = (before : List Row) → Stands l.fn.base l.fn.clash before → Stands l.base l.clash (before ++ take l.row-index l.rows)
