use Rattle.std.proofs.Common.{◌≡◌, ◌++◌, map, take}
use Rattle.snx_write.specs.Combined.{text_of, moments_line}
use Rattle.snx_write.proofs.moments.push_rows.Given as goal

abbrev pub invariant-loop-row : goal.invariant-loop-row
invariant-loop-row l = l.out.items ≡ l.fn.out.items ++ text_of (map moments_line (take l.row-index l.rows))
