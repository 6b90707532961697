use Rattle.bounds_report.specs.Ends.{AreEnds}
use Rattle.bounds_report.proofs.ends.all_ends.Given as goal

abbrev pub invariant-loop-row : goal.invariant-loop-row
invariant-loop-row l = AreEnds l.row l.rows l.all.items
