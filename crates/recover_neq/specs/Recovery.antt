-- From the blocks of normal equations to intervals by name, or the first cause for which there are none.
use Rattle.std.specs.Prelude.{◌≡◌, List, map, Result, Ok}
use Rattle.stated_order.specs.Steps.{IsOne, Then}
use Rattle.whole_numbers.specs.Intervals.{Interval}
use Rattle.decimal_e.specs.Decimals.{Decimal}
use Rattle.sym_blocks.specs.Tables.{SymTable}
use Rattle.param_ids.specs.Plain.{PlainId}
use Rattle.param_ids.specs.Tables.{ScaleMap}
use Rattle.snx_rows.specs.Named.{value_of, unit_of}
use Rattle.neq_stack.specs.Neqs.{PlainNeq}
use Rattle.named_tables.specs.Naming.{matched, filled, AreNamesOf}
use Rattle.named_tables.specs.Tables.{IsTable, IsColumn}
use Rattle.named_tables.specs.Weighted.{scale_of}
use Rattle.named_tables.specs.declared.faults.RecoverFault.{RecoverFault}
use Rattle.recover_neq.specs.Blocks.{Blocks}

-- normal equations of these names with this table and this right side, at the a priori values of the blocks
abbrev pub equations_of : Blocks → ScaleMap → List PlainId → SymTable → List Interval → PlainNeq
equations_of blocks scales names table right = record {
  names = names;
  table = table;
  right = right;
  apriori = map (value_of blocks.apriori) names;
  units = map (unit_of blocks.apriori) names;
  scales = map (scale_of scales) names;
}

-- those of the names of the right side in order: the table, and then the right side
pub record IsNamed (blocks : Blocks) (weight : Decimal) (scales : ScaleMap) (result : Result PlainNeq RecoverFault) : Type 0 where
  pub names : List PlainId
  pub named : AreNamesOf blocks.vector names
  pub made : Then (IsTable blocks.vector blocks.cells weight scales names) (λ table.
      Then (IsColumn blocks.vector weight scales names) (λ right r.
      r ≡ Ok (equations_of blocks scales names table right))) result

-- The normal equations of the blocks with the weight of their file, or the first cause for which there are none: a row of the right side
-- has no a priori value, there is no row, an element does not fit.
abbrev pub IsRecovered : Blocks → Decimal → ScaleMap → Result PlainNeq RecoverFault → Type 0
IsRecovered blocks weight scales =
    Then (λ r. r ≡ matched blocks.apriori blocks.vector) (λ all_matched.
    Then (λ r. r ≡ filled blocks.vector) (λ some.
    IsNamed blocks weight scales))

-- blocks have one recovery at most: normal equations, or a first cause, and never both
abbrev pub OneRecovery : Type 0
OneRecovery = (blocks : Blocks) (weight : Decimal) (scales : ScaleMap) → IsOne (IsRecovered blocks weight scales)
