-- The exact systems of normal equations: their numbers as they are written, times the weight of their file.
use Rattle.std.specs.Prelude.{◌<◌, ℕ}
use Rattle.stated_order.specs.Steps.{HasOne}
use Rattle.decimal_e.specs.Decimals.{Decimal}
use Rattle.decimal_e.specs.Fractions.{Means}
use Rattle.param_ids.specs.Plain.{PlainId}
use Rattle.neq_stack.specs.Systems.{NamedSystem, multiple}
use Rattle.named_tables.specs.Weighted.{weighted_element, weighted_value}
use Rattle.recover_neq.specs.Blocks.{Blocks}

-- at all names, the matrix and the right side are those that the numbers mean, times the weight
pub record IsExact (blocks : Blocks) (weight : Decimal) (S : NamedSystem) : Type 0 where
  pub some : 0 < S.q
  pub matrix : (one other : PlainId) → Means (weighted_element blocks.vector blocks.cells weight one other) (S.a one other) S.q
  pub right : (id : PlainId) → Means (weighted_value blocks.vector weight id) (S.c id) S.q

-- there is one
abbrev pub ExactExists : Type 0
ExactExists = (blocks : Blocks) (weight : Decimal) → HasOne (IsExact blocks weight)

-- with a system also each multiple of it is exact
abbrev pub MultiplesAreExact : Type 0
MultiplesAreExact = (blocks : Blocks) (weight : Decimal) (S : NamedSystem) (k : ℕ) → 0 < k → IsExact blocks weight S → IsExact blocks weight (multiple k S)
