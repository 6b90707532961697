-- From a solution to normal equations in intervals by name: the names of its parameters, its information matrix, the table of its
-- constraints, and the first less the second at the a priori values. Any of its matrices may be covariances or correlations.
use Rattle.std.specs.Prelude.{◌≡◌, ◌<◌, ℕ, pos, List, length, Some, Result, Ok, Err, slice_get}
use Rattle.stated_order.specs.Steps.{Then}
use Rattle.decimal_e.specs.Decimals.{Decimal}
use Rattle.sym_blocks.specs.Tables.{SymTable, entry_at, before, zero_interval}
use Rattle.param_ids.specs.Plain.{PlainId}
use Rattle.param_ids.specs.Tables.{ScaleMap}
use Rattle.snx_rows.specs.declared.rows.Row.{Row}
use Rattle.neq_stack.specs.ByName.{entry_at_places, place_in}
use Rattle.neq_stack.specs.Neqs.{PlainNeq}
use Rattle.neq_stack.specs.Systems.{NamedSystem}
use Rattle.named_tables.specs.Naming.{AreNamesOf}
use Rattle.named_tables.specs.declared.faults.RecoverFault.{RecoverFault}
use Rattle.information_tables.specs.Exact.{IsInformation}
use Rattle.information_tables.specs.Tables.{IsInformationTable}
use Rattle.recover_solution.specs.Exact.{HasNoRight, AreSigmaConstraints, IsFreedSystem}
use Rattle.recover_solution.specs.Recovery.{AreParameters, IsSigmaTable, IsFreed}
use Rattle.recover_solution.specs.Solutions.{PlainConstraint, Free, Matrix, Sigmas, PlainSolution, touched_names}

-- ---- the table of the constraints
-- no constraint has an element
pub record IsZeroTable (names : List PlainId) (table : SymTable) : Type 0 where
  pub size : table.size ≡ length names
  pub lower : length table.entries ≡ before table.size
  pub entries : (i j : ℕ) → i < length names → j < length names → entry_at table i j ≡ zero_interval

-- a table over some of the names, and over all of them: zero at a name that it lacks
pub record IsSpread (names part : List PlainId) (small table : SymTable) : Type 0 where
  pub size : table.size ≡ length names
  pub lower : length table.entries ≡ before table.size
  pub entries : (i j : ℕ) (one other : PlainId) → slice_get names i ≡ Some one → slice_get names j ≡ Some other → entry_at table i j ≡ entry_at_places small (place_in part one) (place_in part other)

abbrev pub AreSpread : List PlainId → List PlainId → SymTable → Result SymTable RecoverFault → Type 0
AreSpread names part small (Ok table) = IsSpread names part small table
AreSpread names part small (Err fault) = ⊥

-- The table of the constraints for these names, or the first cause for which there is none. Those of a matrix are its information matrix for
-- the names that an element touches.
abbrev pub IsConstraintTable : PlainConstraint → List Row → Decimal → ScaleMap → List PlainId → Result SymTable RecoverFault → Type 0
IsConstraintTable Free apriori weight scales names (Ok table) = IsZeroTable names table
IsConstraintTable Free apriori weight scales names (Err fault) = ⊥
IsConstraintTable (Matrix content cells) apriori weight scales names result =
    Then (IsInformationTable content apriori cells weight scales (touched_names apriori cells names)) (AreSpread names (touched_names apriori cells names)) result
IsConstraintTable Sigmas apriori weight scales names result = IsSigmaTable apriori weight scales names result

-- ---- all steps
-- the normal equations of a solution with the weight of its file, or the first cause for which there are none
abbrev pub IsSolved : PlainSolution → Decimal → ScaleMap → Result PlainNeq RecoverFault → Type 0
IsSolved solution weight scales =
    Then (AreParameters solution) (λ names.
    Then (IsInformationTable solution.content solution.estimates solution.cells weight scales names) (λ table.
    Then (IsConstraintTable solution.constraint solution.apriori weight scales names) (λ removed.
    IsFreed solution scales names table removed)))

-- ---- exact systems
-- no constraints
pub record IsNothing (K : NamedSystem) : Type 0 where
  pub some : 0 < K.q
  pub matrix : (one other : PlainId) → K.a one other ≡ pos 0
  pub right : HasNoRight K

-- K is a system of the constraints for these names: of none, of the information matrix of theirs for the names that an element touches, or of
-- the standard deviations
abbrev pub AreConstraints : PlainConstraint → List Row → Decimal → List PlainId → NamedSystem → Type 0
AreConstraints Free apriori weight names K = IsNothing K
AreConstraints (Matrix content cells) apriori weight names K = IsInformation content apriori cells (touched_names apriori cells names) weight K
AreConstraints Sigmas apriori weight names K = AreSigmaConstraints apriori weight K

-- S together with constraints K is an information matrix E of the solution, taken from its estimates to its a priori values
pub record IsExactSolution (solution : PlainSolution) (weight : Decimal) (S : NamedSystem) : Type 0 where
  pub names : List PlainId
  pub named : AreNamesOf solution.estimates names
  pub E : NamedSystem
  pub information : IsInformation solution.content solution.estimates solution.cells names weight E
  pub K : NamedSystem
  pub constraints : AreConstraints solution.constraint solution.apriori weight names K
  pub freed : IsFreedSystem solution names E K S
