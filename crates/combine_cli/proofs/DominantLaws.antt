-- A dominant stack is refused in print alone.
use Rattle.std.proofs.Common.{◌≡◌, ◌∙◌, Err, refl, ap, subst}
use Rattle.neq_stack.specs.Neqs.{PlainNeq}
use Rattle.bounds_report.specs.declared.PrintError.{PrintError}
use Rattle.bounds_report.specs.declared.PrintError.TheVariants as print
use Rattle.refusal_lines.specs.declared.refusal.Refusal.{Refusal}
use Rattle.stack_rules.specs.Dominance.{IsRefusedInPrint}
use Rattle.stack_rules.specs.declared.StackError.{StackError}
use Rattle.stack_rules.specs.Refusals.{of_printing}
use Rattle.stack_rules.specs.Rules.{IsPrintingStep}
use Rattle.stack_rules.proofs.DominantStacks.{dominant_are_enclosed}
use Rattle.combine_cli.specs.Causes.{refusal_of_rules}
use Rattle.combine_cli.specs.Combination.{stack_in}
use Rattle.combine_cli.specs.Dominance.{IsPrintRefusal, DominantStacksAreEnclosed}

module _ (neq : PlainNeq) (refusal : Refusal) (cause : StackError) (told : refusal ≡ refusal_of_rules neq.names cause) (h : IsRefusedInPrint (stack_in neq) cause) where
  is_print_refusal : (fault : PrintError) → h.fault ≡ fault → IsPrintRefusal neq refusal
  is_print_refusal (print.Range row) same =
      let is = h.is_cause ∙ ap of_printing same in
      record {
        row = row;
        in_print = subst (IsRefusedInPrint (stack_in neq)) is h;
        is_range = told ∙ ap (refusal_of_rules neq.names) is;
      }
  is_print_refusal print.Memory same = absurd (subst (λ fault. IsPrintingStep (stack_in neq) h.table h.enclosure (Err fault)) same h.printing)

pub dominant_stacks_are_enclosed : DominantStacksAreEnclosed
dominant_stacks_are_enclosed neq refusal is h =
    let in_print = dominant_are_enclosed (stack_in neq) h.0 is h.1 in
    is_print_refusal neq refusal h.0 h.2 in_print in_print.fault refl
