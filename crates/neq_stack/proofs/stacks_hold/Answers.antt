use Rattle.neq_stack.proofs.Laws.{stack_holds, neq_lies_in_stack}
use Rattle.neq_stack.proofs.stacks_hold.Goals as goal

pub returns : goal.returns
returns c = record { holds = stack_holds; in_order = neq_lies_in_stack }
