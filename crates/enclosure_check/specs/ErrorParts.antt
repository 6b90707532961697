-- For private functions alone: what a vector leaves of the right side and what the pilot makes of it, in lists.
use Rattle.std.specs.Prelude.{◌≡◌, ◌≤◌, ◌<◌, ◌+◌, ◌-◌, ◌^◌, ℕ, ℤ, List, length, slice_index_or}
use Rattle.whole_numbers.specs.Quotients.{up_over}
use Rattle.whole_numbers.specs.Intervals.{Interval, interval_scale, interval_shift, sum_intervals, size}
use Rattle.sym_blocks.specs.Tables.{zero_interval}
use Rattle.sys_model.specs.Systems.{Table, residual_interval}
use Rattle.whole_numbers.specs.Lists.{at, AllAtMost}
use Rattle.enclosures.specs.Pilots.{PilotTable, pilot_entry}
use Rattle.enclosures.specs.Vectors.{IsSmall}
use Rattle.enclosure_check.specs.Rows.{entry_between}

-- the interval at k of a list
abbrev pub nth_entry : List Interval → ℕ → Interval
nth_entry ws k = slice_index_or ws k zero_interval

-- a vector of n numbers whose sizes add up to at most 2^64
pub record IsVector (n : ℕ) (y : List ℤ) : Type 0 where
  pub len : length y ≡ n
  pub small : IsSmall n (at y)

-- interval j of a row times number j of the vector
abbrev pub taken_interval : List ℤ → List ℤ → List ℤ → ℕ → Interval
taken_interval low high y j = interval_scale (at y j) (entry_between low high j)

-- the intervals are the residual of y
pub record AreResiduals (n : ℕ) (t : Table) (y : ℕ → ℤ) (ws : List Interval) : Type 0 where
  pub len : length ws ≡ n
  pub each : (i : ℕ) → i < n → nth_entry ws i ≡ residual_interval n t y i
  pub small : (i : ℕ) → i < n → size (nth_entry ws i) ≤ 2 ^ 126

-- each interval of the list is at most 2^66 in size after an outward shift by h
abbrev pub FitAfter : List Interval → ℕ → Type 0
FitAfter ws h = (k : ℕ) → k < length ws → size (interval_shift h (nth_entry ws k)) ≤ 2 ^ 66

-- the intervals vs are the intervals ws after an outward shift by h
pub record AreShifted (h : ℕ) (ws vs : List Interval) : Type 0 where
  pub len : length vs ≡ length ws
  pub each : (k : ℕ) → k < length ws → nth_entry vs k ≡ interval_shift h (nth_entry ws k)

-- the product of number k of a row and interval k
abbrev pub part_interval : List ℤ → List Interval → ℕ → Interval
part_interval r ws k = interval_scale (at r k) (nth_entry ws k)

-- a row of the pilot and as many intervals that it may be multiplied with
pub record IsRowByEntries (r : List ℤ) (ws : List Interval) : Type 0 where
  pub len : length r ≡ length ws
  pub few : length ws ≤ 1000
  pub row_small : AllAtMost (2 ^ 50) r
  pub entries_small : (k : ℕ) → k < length ws → size (nth_entry ws k) ≤ 2 ^ 66

-- n intervals that the pilot may be multiplied with
pub record AreShiftedResiduals (n : ℕ) (ws : List Interval) : Type 0 where
  pub len : length ws ≡ n
  pub few : n ≤ 1000
  pub small : (k : ℕ) → k < n → size (nth_entry ws k) ≤ 2 ^ 66

-- the error of row i, from intervals that were shifted by h
abbrev pub shifted_error : PilotTable → List Interval → ℕ → ℕ → ℕ
shifted_error p ws h i = up_over (size (sum_intervals p.size (λ k. interval_scale (pilot_entry p i k) (nth_entry ws k)))) (2 ^ (p.g + 60 - h))

-- these are the errors of all rows, from intervals that were shifted by h
pub record AreShiftedErrors (p : PilotTable) (ws : List Interval) (h : ℕ) (errors : List ℕ) : Type 0 where
  pub len : length errors ≡ p.size
  pub each : (i : ℕ) → i < p.size → slice_index_or errors i 0 ≡ shifted_error p ws h i
