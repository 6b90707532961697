-- Blocks have one recovery: one list of normal equations, or one first cause.
use Rattle.std.proofs.Common.{◌≡◌, ◌∙◌, List, Result, Ok, sym, subst}
use Rattle.stated_order.specs.Steps.{IsOne, Then}
use Rattle.stated_order.proofs.StepLaws.{then_is_one}
use Rattle.decimal_e.specs.Decimals.{Decimal}
use Rattle.param_ids.specs.Plain.{PlainId}
use Rattle.param_ids.specs.Tables.{ScaleMap}
use Rattle.neq_stack.specs.Neqs.{PlainNeq}
use Rattle.named_tables.specs.Tables.{IsTable, IsColumn}
use Rattle.named_tables.specs.declared.faults.RecoverFault.{RecoverFault}
use Rattle.named_tables.proofs.Alone.{one_names, one_table, one_column}
use Rattle.recover_neq.specs.Blocks.{Blocks}
use Rattle.recover_neq.specs.Recovery.{IsNamed, OneRecovery, equations_of}

one_value : {X : Type 0} (x : X) → IsOne (λ r. r ≡ x)
one_value x one other a b = a ∙ sym b

module _ (blocks : Blocks) (weight : Decimal) (scales : ScaleMap) where
  -- the steps for these names
  abbrev Steps : List PlainId → Result PlainNeq RecoverFault → Type 0
  Steps names =
      Then (IsTable blocks.vector blocks.cells weight scales names) (λ table.
      Then (IsColumn blocks.vector weight scales names) (λ right r.
      r ≡ Ok (equations_of blocks scales names table right)))

  steps_are_one : (names : List PlainId) → IsOne (Steps names)
  steps_are_one names =
      then_is_one _ _ (one_table blocks.vector blocks.cells weight scales names) (λ table made.
      then_is_one _ _ (one_column blocks.vector weight scales names) (λ right made.
      one_value (Ok (equations_of blocks scales names table right))))

  named_is_one : IsOne (IsNamed blocks weight scales)
  named_is_one one other a b = steps_are_one a.names one other a.made (subst (λ names. Steps names other) (one_names blocks.vector b.names a.names b.named a.named) b.made)

pub recovered_is_one : OneRecovery
recovered_is_one blocks weight scales =
    then_is_one _ _ (one_value _) (λ all_matched given. then_is_one _ _ (one_value _) (λ some filled. named_is_one blocks weight scales))
