-- For private functions alone: inverses under their names, rows of a table times a weight, and where the table of an inverse comes from.
use Rattle.std.specs.Prelude.{◌≡◌, ◌≤◌, ◌<◌, ◌+◌, ◌⊎◌, ◌^◌, ℕ, pos, ◌<ℤ◌, List, length, Result, Ok, Err, IfOk, IfErr}
use Rattle.stated_order.specs.First.{HoldsBelow}
use Rattle.stated_order.specs.Steps.{HasOne, Then, Renamed}
use Rattle.whole_numbers.specs.Intervals.{size}
use Rattle.decimal_e.specs.Decimals.{Decimal}
use Rattle.sym_blocks.specs.Tables.{SymTable, entry_at, before}
use Rattle.param_ids.specs.Plain.{PlainId}
use Rattle.param_ids.specs.Tables.{ScaleMap}
use Rattle.snx_rows.specs.declared.rows.Row.{Row}
use Rattle.snx_matrices.specs.declared.elements.Cell.{Cell}
use Rattle.snx_matrices.specs.declared.elements.Content.{Content}
use Rattle.neq_stack.specs.Systems.{NamedSystem}
use Rattle.named_tables.specs.Tables.{LiesInTable}
use Rattle.named_tables.specs.Weighted.{weighted_interval, WeightFits}
use Rattle.named_tables.specs.declared.faults.RecoverError.{RecoverError}
use Rattle.named_tables.specs.declared.faults.RecoverError.TheVariants.{Memory, Fault}
use Rattle.named_tables.specs.declared.faults.RecoverFault.{RecoverFault}
use Rattle.inv_enclose.specs.Columns.{IsInverted}
use Rattle.inv_enclose.specs.Inverses.{HoldsInverses, HaveInverses}
use Rattle.inv_enclose.specs.declared.InvError.{InvError}
use Rattle.inv_enclose.specs.declared.InvError.TheVariants as inverses
use Rattle.information_tables.specs.Exact.{IsInformation}
use Rattle.information_tables.specs.Tables.{by_name, AreWeighted, IsWeightedTable, IsInformationTable}

-- ---- refusals
-- the refusal of an inverse under its names, or want of memory
abbrev pub IsNamedRefusal : List PlainId → InvError → RecoverError → Type 0
IsNamedRefusal names inverses.Memory cause = cause ≡ Memory
IsNamedRefusal names other cause = cause ≡ Fault (by_name names other)

-- a refusal is want of memory, or a cause of this step
abbrev pub IsRefusedBy : (Result SymTable RecoverFault → Type 0) → RecoverError → Type 0
IsRefusedBy step cause = (cause ≡ Memory) ⊎ ((fault : RecoverFault) × (cause ≡ Fault fault) × step (Err fault))

-- ---- an inverse under names
abbrev pub IsNamedInverse : List PlainId → SymTable → Result SymTable RecoverFault → Type 0
IsNamedInverse names covariances = Renamed (by_name names) (IsInverted covariances (pos 24))

-- and times the weight
abbrev pub IsWeightedInverse : Decimal → List PlainId → SymTable → Result SymTable RecoverFault → Type 0
IsWeightedInverse weight names covariances = Then (IsNamedInverse names covariances) (AreWeighted weight names)

-- no interval of a table passes 10^34 in size
abbrev pub IsModestTable : SymTable → Type 0
IsModestTable table = (i j : ℕ) → i < table.size → j < table.size → size (entry_at table i j) ≤ 10 ^ 34

-- an inverse of the covariances times the weight, which the table of the answer is
pub record IsOfInverse (weight : Decimal) (covariances out : SymTable) : Type 0 where
  pub inverse : SymTable
  pub size : inverse.size ≡ covariances.size
  pub holds : HoldsInverses covariances (pos 24) inverse
  pub have : HaveInverses covariances
  pub weighted : IsWeightedTable weight inverse out
  pub modest : IsModestTable out

-- ---- rows times a weight
-- each interval of a row up to the diagonal fits and is times the weight; the other rows are as before
pub record IsWeightedRow (weight : Decimal) (row : ℕ) (old new : SymTable) : Type 0 where
  pub fits : HoldsBelow (row + 1) (λ j. WeightFits weight (entry_at old row j))
  pub here : (j : ℕ) → j < row + 1 → entry_at new row j ≡ weighted_interval weight (entry_at old row j)
  pub others : (i j : ℕ) → i < old.size → j ≤ i → (i ≡ row → ⊥) → entry_at new i j ≡ entry_at old i j

-- ---- answers
-- what is promised of an answer: it is that of this step, each of these exact systems lies in the table, there is one, and the table has its
-- size and its bounds
pub record IsAnsweredBy (step : Result SymTable RecoverFault → Type 0) (exact : NamedSystem → Type 0) (scales : ScaleMap) (names : List PlainId) (result : Result SymTable RecoverError) : Type 0 where
  pub table : IfOk result (λ table. step (Ok table))
  pub refused : IfErr result (IsRefusedBy step)
  pub lies : IfOk result (λ table. (E : NamedSystem) → exact E → LiesInTable scales names table E)
  pub exists : IfOk result (λ table. HasOne exact)
  pub size : IfOk result (λ table. table.size ≡ length names)
  pub lower : IfOk result (λ table. length table.entries ≡ before table.size)
  pub modest : IfOk result IsModestTable

abbrev pub IsAnswered : Content → List Row → List Cell → Decimal → ScaleMap → List PlainId → Result SymTable RecoverError → Type 0
IsAnswered content rows cells weight scales names =
    IsAnsweredBy (IsInformationTable content rows cells weight scales names) (IsInformation content rows cells names weight) scales names

-- ---- numbers of the test
-- a positive number with at most three digits
pub record IsShort (d : Decimal) : Type 0 where
  pub some : pos 0 <ℤ d.mant
  pub few : d.mant <ℤ pos 1000
