use Rattle.std.proofs.Common.{length}
use Rattle.control_doc.proofs.reductions.+is_reduced.Given as goal

abbrev pub decreases-is_reduced : goal.decreases-is_reduced
decreases-is_reduced l = length l.before.now
