use Rattle.neq_stack.proofs.Laws.{stack_is_one, stacks_regroup, stacks_move, some_have_stack, stack_is_at_most}
use Rattle.neq_stack.proofs.stacks_add.Goals as goal

pub returns : goal.returns
returns c = record { one = stack_is_one; regroup = stacks_regroup; moved = stacks_move; some = some_have_stack; most = stack_is_at_most }
