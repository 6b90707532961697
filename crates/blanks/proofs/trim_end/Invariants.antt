use Rattle.std.proofs.Common.{◌≡◌, length}
use Rattle.blanks.specs.Blanks.{end_trimmed}
use Rattle.blanks.proofs.trim_end.Given as goal

abbrev pub invariant-loop-rest : goal.invariant-loop-rest
invariant-loop-rest l = end_trimmed l.rest ≡ end_trimmed l.fn.text

abbrev pub decreases-loop-rest : goal.decreases-loop-rest
decreases-loop-rest l = length l.rest
