use Rattle.std.proofs.Common.{length}
use Rattle.control_doc.proofs.files.+has_group.Given as goal

abbrev pub decreases-has_group : goal.decreases-has_group
decreases-has_group l = length l.files.now
