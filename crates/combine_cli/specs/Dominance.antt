-- What a combination is promised whose stack, with the rows of the datum, is dominant.
use Rattle.std.specs.Prelude.{◌≡◌, ℕ, Err}
use Rattle.neq_stack.specs.Systems.{name_at}
use Rattle.neq_stack.specs.Neqs.{PlainNeq}
use Rattle.refusal_lines.specs.declared.refusal.Refusal.{Refusal}
use Rattle.refusal_lines.specs.declared.refusal.Refusal.TheVariants.{Range}
use Rattle.refusal_lines.specs.declared.refusal.Scope.TheVariants.{Stack}
use Rattle.stack_rules.specs.Dominance.{IsDominantStack, IsRefusedInPrint}
use Rattle.stack_rules.specs.declared.StackError.TheVariants as rules
use Rattle.combine_cli.specs.Combination.{stack_in, Solves}

-- the numbers of a row can't be printed, and the refusal names this row
pub record IsPrintRefusal (neq : PlainNeq) (refusal : Refusal) : Type 0 where
  pub row : ℕ
  pub in_print : IsRefusedInPrint (stack_in neq) (rules.Range row row)
  pub is_range : refusal ≡ Range Stack (name_at neq.names row) (name_at neq.names row)

-- a dominant stack is refused neither for its pilot nor for its start vector nor for its certificate
abbrev pub DominantStacksAreEnclosed : Type 0
DominantStacksAreEnclosed = (neq : PlainNeq) (refusal : Refusal) → IsDominantStack (stack_in neq) → Solves neq (Err refusal) → IsPrintRefusal neq refusal
