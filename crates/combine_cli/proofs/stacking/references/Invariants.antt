use Rattle.std.proofs.Common.{◌≡◌, map, take}
use Rattle.neq_stack.specs.Neqs.{neq_view}
use Rattle.combine_cli.proofs.stacking.references.Given as goal

abbrev pub invariant-loop-stack : goal.invariant-loop-stack
invariant-loop-stack l = map (λ neq. neq_view neq.now) l.neqs.items ≡ map neq_view (take l.stack-index l.stacks)
