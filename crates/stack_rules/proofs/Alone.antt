-- Each step of the rules has one result, and so have the rules.
use Rattle.std.proofs.Common.{◌∙◌, Ok, Err, sym, ap}
use Rattle.stated_order.specs.Steps.{IsOne}
use Rattle.stated_order.proofs.StepLaws.{then_is_one, renamed_is_one}
use Rattle.whole_numbers.specs.Lists.{at}
use Rattle.enclosure_check.specs.Enclosures.{Enclosure, IsEnclosureStep}
use Rattle.enclosure_check.specs.Steps.{Worked, intervals_of, midpoints_of, IsWorkingStep, radius_in}
use Rattle.enclosure_check.proofs.AloneEnclosures.{enclosure_is_one}
use Rattle.enclosure_check.proofs.AloneSteps.{working_is_one}
use Rattle.bounds_report.specs.declared.PrintError.TheVariants as print
use Rattle.bounds_report.proofs.AlonePrinted.{printed_alone, printed_no_refusal, print_refusal_alone}
use Rattle.stack_rules.specs.Refusals.{of_working, of_enclosure, of_printing}
use Rattle.stack_rules.specs.Rules.{power_of, IsPrintingStep, IsAnswer}
use Rattle.stack_rules.specs.Stacks.{Stack}

-- ---- the printed numbers
module _ (s : Stack) (w : Worked) (e : Enclosure) where
  printing_is_one : IsOne (IsPrintingStep s w e)
  printing_is_one (Ok ps) (Ok qs) a b = ap Ok (printed_alone s.rows (power_of s w) s.apriori (at e.vector) (radius_in e.certificate) (intervals_of w) e.pilot ps qs a b)
  printing_is_one (Ok ps) (Err (print.Range k)) a b = absurd (printed_no_refusal s.rows (power_of s w) s.apriori (at e.vector) (radius_in e.certificate) (intervals_of w) e.pilot ps k a b)
  printing_is_one (Ok ps) (Err print.Memory) a b = absurd b
  printing_is_one (Err (print.Range i)) (Ok qs) a b = absurd (printed_no_refusal s.rows (power_of s w) s.apriori (at e.vector) (radius_in e.certificate) (intervals_of w) e.pilot qs i b a)
  printing_is_one (Err (print.Range i)) (Err (print.Range k)) a b = ap (λ x. Err (print.Range x)) (print_refusal_alone s.rows (power_of s w) s.apriori (at e.vector) (radius_in e.certificate) i k a b)
  printing_is_one (Err (print.Range i)) (Err print.Memory) a b = absurd b
  printing_is_one (Err print.Memory) r a b = absurd a

-- ---- the rules
pub answer_is_one : (s : Stack) → IsOne (IsAnswer s)
answer_is_one s =
    then_is_one _ _ (renamed_is_one of_working (IsWorkingStep s.rows s.table) (working_is_one s.rows s.table)) (λ w of_w.
    then_is_one _ _ (renamed_is_one of_enclosure (IsEnclosureStep s.rows (intervals_of w) (midpoints_of w)) (enclosure_is_one s.rows (intervals_of w) (midpoints_of w))) (λ e of_e.
    then_is_one _ _ (renamed_is_one of_printing (IsPrintingStep s w e) (printing_is_one s w e)) (λ rows of_rows r t a b. a ∙ sym b)))
