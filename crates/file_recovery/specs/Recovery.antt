-- The normal equations of a file and its exact systems, by its plan: of its normal equations, or of its solution.
use Rattle.std.specs.Prelude.{◌≡◌, ◌<◌, ℕ, List, Result, Ok, Some}
use Rattle.stated_order.specs.Steps.{IsOne, Then, Renamed}
use Rattle.decimal_e.specs.Decimals.{Decimal}
use Rattle.param_ids.specs.Plain.{PlainId}
use Rattle.param_ids.specs.Tables.{ScaleMap}
use Rattle.snx_rows.specs.Named.{row_of, value_of, unit_of}
use Rattle.snx_rows.specs.declared.rows.Row.{Row}
use Rattle.snx_blocks.specs.Documents.{PlainDoc}
use Rattle.control_doc.specs.Plain.{PlainPlan}
use Rattle.neq_stack.specs.ByName.{Parameter, HasParameter}
use Rattle.neq_stack.specs.Neqs.{PlainNeq}
use Rattle.neq_stack.specs.Systems.{NamedSystem, multiple}
use Rattle.named_tables.specs.Naming.{AreNamesOf}
use Rattle.named_tables.specs.Weighted.{scale_of}
use Rattle.recover_neq.specs.Exact as exact_equations
use Rattle.recover_neq.specs.Recovery as equations
use Rattle.file_recovery.specs.Solved.{IsSolved, IsExactSolution}
use Rattle.file_recovery.specs.Files.{Source, Equations, Estimated, rows_of, apriori_of, IsSource}
use Rattle.file_recovery.specs.declared.faults.FileFault.{FileFault}
use Rattle.file_recovery.specs.declared.faults.FileFault.TheVariants.{Recovery}

-- ---- normal equations
abbrev pub IsRecoveredFrom : Decimal → ScaleMap → Source → Result PlainNeq FileFault → Type 0
IsRecoveredFrom weight scales (Equations blocks) = Renamed Recovery (equations.IsRecovered blocks weight scales)
IsRecoveredFrom weight scales (Estimated solution) = Renamed Recovery (IsSolved solution weight scales)

-- the normal equations of a file with its weight, or the first cause for which it has none: a block is missing, and then
-- those of the blocks
abbrev pub IsRecovered : PlainPlan → PlainDoc → ScaleMap → Result PlainNeq FileFault → Type 0
IsRecovered plan doc scales = Then (IsSource plan doc) (IsRecoveredFrom plan.weight scales)

-- a file has one recovery at most: normal equations, or a first cause, and never both
abbrev pub OneRecovery : Type 0
OneRecovery = (plan : PlainPlan) (doc : PlainDoc) (scales : ScaleMap) → IsOne (IsRecovered plan doc scales)

-- ---- exact systems
abbrev pub IsExactFrom : Decimal → Source → NamedSystem → Type 0
IsExactFrom weight (Equations blocks) = exact_equations.IsExact blocks weight
IsExactFrom weight (Estimated solution) = IsExactSolution solution weight

-- an exact system of the blocks of a file
pub record IsExact (plan : PlainPlan) (doc : PlainDoc) (S : NamedSystem) : Type 0 where
  pub source : Source
  pub has : IsSource plan doc (Ok source)
  pub exact : IsExactFrom plan.weight source S

-- with a system also each multiple of it is exact
abbrev pub MultiplesAreExact : Type 0
MultiplesAreExact = (plan : PlainPlan) (doc : PlainDoc) (S : NamedSystem) (k : ℕ) → 0 < k → IsExact plan doc S → IsExact plan doc (multiple k S)

-- ---- parameters
-- the names of a file's parameters in order, and their a priori values
pub record IsKnownBy (plan : PlainPlan) (doc : PlainDoc) (names : List PlainId) (apriori : List Row) : Type 0 where
  pub source : Source
  pub has : IsSource plan doc (Ok source)
  pub named : AreNamesOf (rows_of source) names
  pub rows_are : apriori ≡ apriori_of source

-- the parameter of a name, from the a priori row of that name
pub record IsParameterOf (apriori : List Row) (scales : ScaleMap) (id : PlainId) (parameter : Parameter) : Type 0 where
  pub row : Row
  pub known : row_of apriori id ≡ Some row
  pub value_is : parameter.value ≡ value_of apriori id
  pub unit_is : parameter.unit ≡ unit_of apriori id
  pub exponent_is : parameter.exponent ≡ scale_of scales id

-- so are all parameters of recovered normal equations
abbrev pub RecoveredParameters : Type 0
RecoveredParameters = (plan : PlainPlan) (doc : PlainDoc) (scales : ScaleMap) (apriori : List Row) (neq : PlainNeq) (id : PlainId) (parameter : Parameter)
    → doc.apriori ≡ Some apriori → IsRecovered plan doc scales (Ok neq) → HasParameter neq id parameter → IsParameterOf apriori scales id parameter
