-- For private functions alone: intervals of standard deviations, and tables less tables.
use Rattle.std.specs.Prelude.{◌≡◌, ◌≢◌, ◌<◌, ℕ, ℤ, List, Option, Some, Result, Ok, Err, length, slice_get, slice_index_or}
use Rattle.stated_order.specs.First.{IsFirstFailure}
use Rattle.whole_numbers.specs.Intervals.{Interval, interval_sub}
use Rattle.decimal_e.specs.Decimals.{Decimal}
use Rattle.sym_blocks.specs.Tables.{SymTable, entry_at, before, zero_interval}
use Rattle.param_ids.specs.Plain.{PlainId}
use Rattle.param_ids.specs.Tables.{ScaleMap}
use Rattle.snx_rows.specs.declared.rows.Row.{Row}
use Rattle.named_tables.specs.Deviations.{sigma_of}
use Rattle.named_tables.specs.Weighted.{entry_power}
use Rattle.named_tables.specs.declared.faults.RecoverFault.{RecoverFault}
use Rattle.named_tables.specs.declared.faults.RecoverFault.TheVariants.{Range}
use Rattle.recover_solution.specs.Recovery.{IsSigmaInterval, SigmaFits}

-- the interval of a name's standard deviation, which fits
pub record IsFittingSigma (weight : Decimal) (dev : Option Decimal) (k : ℤ) (w : Interval) : Type 0 where
  pub interval : IsSigmaInterval weight dev k w
  pub fits : SigmaFits weight dev k

-- the one at a place of some intervals
abbrev pub IsSigmaAt : List Row → Decimal → ScaleMap → List PlainId → List Interval → ℕ → Type 0
IsSigmaAt apriori weight scales names intervals i =
    (id : PlainId) → slice_get names i ≡ Some id → IsFittingSigma weight (sigma_of apriori id) (entry_power scales id id) (slice_index_or intervals i zero_interval)

-- the first name, twice, whose interval does not fit
abbrev pub SigmaFitsAt : List Row → Decimal → ScaleMap → List PlainId → ℕ → Type 0
SigmaFitsAt apriori weight scales names i = (id : PlainId) → slice_get names i ≡ Some id → SigmaFits weight (sigma_of apriori id) (entry_power scales id id)

abbrev pub IsFirstUnfitSigma : List Row → Decimal → ScaleMap → List PlainId → RecoverFault → Type 0
IsFirstUnfitSigma apriori weight scales names fault =
    (i : ℕ) × (id : PlainId) × (fault ≡ Range id id) × (slice_get names i ≡ Some id) × IsFirstFailure (length names) (SigmaFitsAt apriori weight scales names) i

-- the table with these intervals on its diagonal, and zeros elsewhere
pub record IsDiagonal (intervals : List Interval) (table : SymTable) : Type 0 where
  pub size : table.size ≡ length intervals
  pub lower : length table.entries ≡ before table.size
  pub here : (i : ℕ) → i < length intervals → entry_at table i i ≡ slice_index_or intervals i zero_interval
  pub others : (i j : ℕ) → i < length intervals → j < length intervals → i ≢ j → entry_at table i j ≡ zero_interval

-- the table of these intervals, or the first that does not fit
abbrev pub AreSigmas : List Row → Decimal → ScaleMap → List PlainId → Result SymTable RecoverFault → Type 0
AreSigmas apriori weight scales names (Ok table) =
    (intervals : List Interval) × (length intervals ≡ length names) × ((i : ℕ) → i < length names → IsSigmaAt apriori weight scales names intervals i) × IsDiagonal intervals table
AreSigmas apriori weight scales names (Err fault) = IsFirstUnfitSigma apriori weight scales names fault

-- the interval of a table at a place is that of another less the one that is removed
abbrev pub IsLessAt : SymTable → SymTable → SymTable → ℕ → ℕ → Type 0
IsLessAt removed old new i j = entry_at new i j ≡ interval_sub (entry_at old i j) (entry_at removed i j)
