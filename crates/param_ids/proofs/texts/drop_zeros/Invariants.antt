use Rattle.std.proofs.Common.{◌≡◌, length}
use Rattle.param_ids.specs.Texts.{without_zeros}
use Rattle.param_ids.proofs.texts.drop_zeros.Given as goal

abbrev pub invariant-loop-rest : goal.invariant-loop-rest
invariant-loop-rest l = without_zeros l.rest ≡ without_zeros l.fn.text

abbrev pub decreases-loop-rest : goal.decreases-loop-rest
decreases-loop-rest l = length l.rest
