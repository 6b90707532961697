use Rattle.std.proofs.Common.{◌≡◌, length}
use Rattle.blanks.specs.Blanks.{front_trimmed}
use Rattle.blanks.proofs.trim_front.Given as goal

abbrev pub invariant-loop-rest : goal.invariant-loop-rest
invariant-loop-rest l = front_trimmed l.rest ≡ front_trimmed l.fn.text

abbrev pub decreases-loop-rest : goal.decreases-loop-rest
decreases-loop-rest l = length l.rest
