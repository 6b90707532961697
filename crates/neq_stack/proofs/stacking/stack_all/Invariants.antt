use Rattle.std.proofs.Common.{map, take}
use Rattle.neq_stack.specs.Neqs.{neq_view}
use Rattle.neq_stack.specs.Stacks.{IsStackOf}
use Rattle.neq_stack.proofs.stacking.stack_all.Given as goal

abbrev pub invariant-loop-k : goal.invariant-loop-k
invariant-loop-k g l = IsStackOf (take l.k (map (λ part. neq_view part.now) l.parts)) (neq_view l.sum)
