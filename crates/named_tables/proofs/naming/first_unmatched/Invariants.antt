use Rattle.std.proofs.Common.{◌≡◌, None, take}
use Rattle.std.specs.List.{find}
use Rattle.named_tables.specs.Naming.{lacks_row}
use Rattle.named_tables.proofs.naming.first_unmatched.Given as goal

abbrev pub invariant-loop-row : goal.invariant-loop-row
invariant-loop-row l = find (lacks_row l.apriori) (take l.row-index l.rows) ≡ None
