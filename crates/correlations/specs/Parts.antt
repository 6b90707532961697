-- For private functions alone: covariances by the places of names, from intervals of correlations.
use Rattle.std.specs.Prelude.{◌≡◌, ◌≤◌, ◌<◌, ◌+◌, ◌^◌, ◌==◌, ℕ, ℤ, pos, negsuc, ◌+ℤ◌, ◌<ℤ◌, if◌then◌else◌, List, Option, Some, None, slice_get, slice_index_or}
use Rattle.stated_order.specs.First.{HoldsBelow, HoldsLower}
use Rattle.whole_numbers.specs.Intervals.{Interval, interval_scale, point_interval, size}
use Rattle.whole_numbers.specs.Scaling.{interval_scale10}
use Rattle.decimal_e.specs.Decimals.{Decimal, IsBounded, IsCanonical}
use Rattle.sym_blocks.specs.Tables.{SymTable, entry_at}
use Rattle.snx_matrices.specs.declared.elements.Content.TheVariants.{Cova}
use Rattle.param_ids.specs.Plain.{PlainId}
use Rattle.named_tables.specs.Parts.{pair_power}
use Rattle.named_tables.specs.declared.faults.RecoverFault.{RecoverFault}
use Rattle.named_tables.specs.declared.faults.RecoverFault.TheVariants.{NoWeight, Range}
use Rattle.correlations.specs.Correlations.{HasDigits}
use Rattle.correlations.specs.declared.triangles.Unfit.{Unfit}
use Rattle.correlations.specs.declared.triangles.Unfit.TheVariants.{Bare, Entry}

-- a decimal of the type
pub record IsTyped (d : Decimal) : Type 0 where
  pub canonical : IsCanonical d
  pub bounded : IsBounded d

-- ---- products
-- an interval times digits over 10^18, rounded outward
abbrev pub times_part : ℕ → Interval → Interval
times_part m c = interval_scale10 (interval_scale (pos m) c) (negsuc 17)

-- times the digits of one over 10^18, then times those of the other, and times 10^power
abbrev pub times_both : ℕ → ℕ → ℤ → Interval → Interval
times_both m n power c = interval_scale10 (interval_scale (pos n) (times_part m c)) power

-- w is the interval times two decimals and 10^power, and passes no bound
pub record IsFitting (c : Interval) (s t : Decimal) (power : ℤ) (w : Interval) : Type 0 where
  pub correlation : size c ≤ 10 ^ 18
  pub m : ℕ
  pub k : ℤ
  pub n : ℕ
  pub l : ℤ
  pub one : HasDigits s m k
  pub other : HasDigits t n l
  pub is : w ≡ times_both m n (k +ℤ l +ℤ power) c
  pub modest : size w ≤ 10 ^ 34

-- the same of decimals that there are
pub record IsFittingEntry (c : Interval) (one other : Option Decimal) (power : ℤ) (w : Interval) : Type 0 where
  pub s : Decimal
  pub t : Decimal
  pub s_is : one ≡ Some s
  pub t_is : other ≡ Some t
  pub fits : IsFitting c s t power w

-- ---- by place
-- the interval of a correlation: exactly 1 on the diagonal
abbrev pub correlation_at : SymTable → ℕ → ℕ → Interval
correlation_at given i j = if i == j then point_interval (pos (10 ^ 18)) else entry_at given i j

module _ (given : SymTable) (deviations : List (Option Decimal)) (exponents : List ℤ) where
  abbrev pub deviation_at : ℕ → Option Decimal
  deviation_at i = slice_index_or deviations i None

  pub record HasDeviationAt (i : ℕ) : Type 0 where
    pub s : Decimal
    pub is : deviation_at i ≡ Some s

  abbrev pub IsEntryAt : ℕ → ℕ → Interval → Type 0
  IsEntryAt i j w = IsFittingEntry (correlation_at given i j) (deviation_at i) (deviation_at j) (pair_power Cova exponents i j) w

  pub record EntryFitsAt (i j : ℕ) : Type 0 where
    pub w : Interval
    pub is : IsEntryAt i j w

  pub record RowFitsAt (i : ℕ) : Type 0 where
    pub deviation : HasDeviationAt i
    pub entries : HoldsBelow (i + 1) (EntryFitsAt i)

  -- the rows below n are filled
  abbrev pub AreFilled : ℕ → SymTable → Type 0
  AreFilled n table = HoldsLower n (λ i j. IsEntryAt i j (entry_at table i j))

  pub record IsBareRow (n i : ℕ) : Type 0 where
    pub within : i < n
    pub rows : HoldsBelow i RowFitsAt
    pub none : deviation_at i ≡ None

  pub record IsUnfitPlace (n i j : ℕ) : Type 0 where
    pub within : i < n
    pub lower : j ≤ i
    pub rows : HoldsBelow i RowFitsAt
    pub deviation : HasDeviationAt i
    pub left : HoldsBelow j (EntryFitsAt i)
    pub fails : ¬ (EntryFitsAt i j)

  -- the first place that does not fit, row by row
  abbrev pub IsFirstUnfit : ℕ → Unfit → Type 0
  IsFirstUnfit n (Bare row) = IsBareRow n row
  IsFirstUnfit n (Entry row col) = IsUnfitPlace n row col

-- ---- causes
-- both places of the first that does not fit are below n
abbrev pub IsPlaceOf : ℕ → Unfit → Type 0
IsPlaceOf n (Bare row) = row < n
IsPlaceOf n (Entry row col) = (row < n) × (col < n)

-- the cause, by the names at these places
abbrev pub IsFaultAt : List PlainId → Unfit → RecoverFault → Type 0
IsFaultAt names (Bare row) fault = (id : PlainId) × (slice_get names row ≡ Some id) × (fault ≡ NoWeight id)
IsFaultAt names (Entry row col) fault = (one : PlainId) × (other : PlainId) × (slice_get names row ≡ Some one) × (slice_get names col ≡ Some other) × (fault ≡ Range one other)

-- ---- numbers of the test
-- a positive number with at most three digits
pub record IsShort (d : Decimal) : Type 0 where
  pub some : pos 0 <ℤ d.mant
  pub few : d.mant <ℤ pos 1000
