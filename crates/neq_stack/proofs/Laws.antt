-- The laws of stacks.
pub use Rattle.neq_stack.proofs.SumLaws.{sum_append}
pub use Rattle.neq_stack.proofs.Alone.{stack_is_one}
pub use Rattle.neq_stack.proofs.RegroupLaws.{stacks_regroup}
pub use Rattle.neq_stack.proofs.MoveLaws.{stacks_move}
pub use Rattle.neq_stack.proofs.SomeLaws.{some_have_stack}
pub use Rattle.neq_stack.proofs.AtMostLaws.{stack_is_at_most}
pub use Rattle.neq_stack.proofs.HoldLaws.{stack_holds, neq_lies_in_stack}
