-- The numbers of a stack, from what the rules answer.
use Rattle.std.proofs.Common.{◌≡◌, ◌∙◌, ℤ, List, length, Err, ap, subst, inl, inr}
use Rattle.whole_numbers.specs.Intervals.{Interval}
use Rattle.decimal_e.specs.Decimals.{Decimal}
use Rattle.sym_blocks.specs.Tables.{SymTable}
use Rattle.bounds_report.specs.Bounds.{AreCertified}
use Rattle.bounds_report.specs.Printing.{numbers_at}
use Rattle.neq_stack.specs.Neqs.{PlainNeq}
use Rattle.stack_rules.specs.Rules.{Numbers, IsRefusedWith}
use Rattle.stack_rules.specs.Stacks.{Stack, stack_of}
use Rattle.stack_rules.specs.declared.StackError.{StackError}
use Rattle.refusal_lines.specs.Refusals.{status_of}
use Rattle.refusal_lines.specs.declared.refusal.Refusal.{Refusal}
use Rattle.refusal_lines.specs.declared.refusal.Refusal.TheVariants.{Memory}
use Rattle.run_inputs.specs.Views.{IfTold}
use Rattle.combine_cli.specs.Causes.{refusal_of_rules}
use Rattle.combine_cli.specs.Combination.{stack_in, Solves}
use Rattle.combine_cli.specs.Headline.{AreCertifiedOf}

-- equal lists make one stack
pub same_stack : (t : SymTable) (ds es : List Interval) (xs ys : List Decimal) (ts us : List ℤ) → ds ≡ es → xs ≡ ys → ts ≡ us → stack_of t ds xs ts ≡ stack_of t es ys us
same_stack t ds es xs ys ts us right apriori scales = ap (λ l. stack_of t l xs ts) right ∙ ap (λ l. stack_of t es l ts) apriori ∙ ap (λ l. stack_of t es ys l) scales

-- certified over the rows of an equal stack, and so over the names
pub certified_by_names : (neq : PlainNeq) (numbers : Numbers) (s : Stack) → s ≡ stack_in neq → neq.table.size ≡ length neq.names
    → AreCertified s.rows s.table s.scales s.apriori (numbers_at numbers.rows) → AreCertifiedOf neq numbers
certified_by_names neq numbers s same rows h =
    subst (λ n. AreCertified n (stack_in neq).table (stack_in neq).scales (stack_in neq).apriori (numbers_at numbers.rows)) rows
    (subst (λ (s : Stack). AreCertified s.rows s.table s.scales s.apriori (numbers_at numbers.rows)) same h)

-- a cause of the rules other than want of memory, told as its refusal
pub told_cause : (refusal : Refusal) (neq : PlainNeq) (cause : StackError) → IsRefusedWith (stack_in neq) cause → refusal ≡ refusal_of_rules neq.names cause → IfTold (λ r. Solves neq (Err r)) refusal
told_cause refusal neq cause (inr answer) e = λ a b. (cause, answer, e)
told_cause refusal neq cause (inl memory) e = λ a b. let f : refusal ≡ Memory = e ∙ ap (refusal_of_rules neq.names) memory in absurd (a (ap status_of f))
