-- The product of a symmetric table with differences, by the scaled intervals of its working table.
use Rattle.std.specs.Prelude.{◌≡◌, ◌≤◌, ◌<◌, ◌^◌, ◌⊎◌, ℕ, suc, ℤ, pos, ◌+ℤ◌, ◌-ℤ◌, List, length, replicate, slice_index_or, All, Result, Ok, Err}
use Rattle.stated_order.specs.First.{HoldsBelow, IsFirstFailure, IsFirstLowerFailure}
use Rattle.stated_order.specs.Steps.{IsOne}
use Rattle.whole_numbers.specs.Sum.{total_to}
use Rattle.whole_numbers.specs.Lists.{at}
use Rattle.whole_numbers.specs.Scaling.{interval_scale10}
use Rattle.whole_numbers.specs.Intervals.{Interval, interval_mul, sum_intervals, size}
use Rattle.sym_blocks.specs.Tables.{SymTable, entry_at, zero_interval}
use Rattle.equil.specs.Tables.{AreExponents, EntryFits, EntriesFit, working_entry}

-- a table, and of each row its difference and its scale exponent
pub record Factors : Type 0 where
  pub table : SymTable
  pub differences : List Interval
  pub scales : List ℤ

abbrev pub difference_at : Factors → ℕ → Interval
difference_at f j = slice_index_or f.differences j zero_interval

-- ---- intervals; e are the exponents of the working table
-- difference j in the units of the working table: times 10^(t_j + e_j - 8), rounded outward, where t_j is its scale exponent
abbrev pub scaled_difference : Factors → (ℕ → ℤ) → ℕ → Interval
scaled_difference f e j = interval_scale10 (difference_at f j) (at f.scales j +ℤ e j -ℤ pos 8)

-- row i of the working table times these differences
abbrev pub row_sum : Factors → (ℕ → ℤ) → ℕ → Interval
row_sum f e i = sum_intervals f.table.size (λ j. interval_mul (working_entry (entry_at f.table) e i j) (scaled_difference f e j))

-- the product of row i: that sum times 10^(e_i - 12), rounded outward
abbrev pub row_product : Factors → (ℕ → ℤ) → ℕ → Interval
row_product f e i = interval_scale10 (row_sum f e i) (e i -ℤ pos 12)

-- ---- bounds
-- the sizes of the scaled differences up to j add up to 2^64 at most
abbrev pub SumFits : Factors → (ℕ → ℤ) → ℕ → Type 0
SumFits f e j = total_to (suc j) (λ k. size (scaled_difference f e k)) ≤ 2 ^ 64

-- the product of row i is at most 10^34 in size
abbrev pub ProductFits : Factors → (ℕ → ℤ) → ℕ → Type 0
ProductFits f e i = size (row_product f e i) ≤ 10 ^ 34

pub record AllFit (f : Factors) (e : ℕ → ℤ) : Type 0 where
  pub entries : EntriesFit f.table.size (entry_at f.table) e
  pub sums : HoldsBelow f.table.size (SumFits f e)
  pub products : HoldsBelow f.table.size (ProductFits f e)

-- a place in a table
pub record Place : Type 0 where
  pub row : ℕ
  pub col : ℕ

-- The first that does not fit: of the working table, row by row up to the diagonal; then of the sums of the differences; then of the
-- products. A sum and a product name their row twice.
abbrev pub IsFirstUnfit : Factors → (ℕ → ℤ) → Place → Type 0
IsFirstUnfit f e p =
    IsFirstLowerFailure f.table.size (EntryFits (entry_at f.table) e) p.row p.col
    ⊎ (((p.row ≡ p.col) × EntriesFit f.table.size (entry_at f.table) e × IsFirstFailure f.table.size (SumFits f e) p.row)
    ⊎ ((p.row ≡ p.col) × EntriesFit f.table.size (entry_at f.table) e × HoldsBelow f.table.size (SumFits f e) × IsFirstFailure f.table.size (ProductFits f e) p.row))

-- ---- the product
-- all differences are zero
abbrev pub AreZero : Factors → Type 0
AreZero f = All (λ w. w ≡ zero_interval) f.differences

-- the products of the rows, all of which fit
pub record AreProducts (f : Factors) (products : List Interval) : Type 0 where
  pub e : ℕ → ℤ
  pub exponents : AreExponents f.table.size (entry_at f.table) e
  pub fit : AllFit f e
  pub rows : length products ≡ f.table.size
  pub each : (i : ℕ) → i < f.table.size → slice_index_or products i zero_interval ≡ row_product f e i

-- the place of the first that does not fit
pub record IsUnfit (f : Factors) (p : Place) : Type 0 where
  pub e : ℕ → ℤ
  pub exponents : AreExponents f.table.size (entry_at f.table) e
  pub first : IsFirstUnfit f e p

-- The products of the rows, or the place of the first that does not fit. Where all differences are zero the products are, and nothing
-- is tested.
abbrev pub IsProduct : Factors → Result (List Interval) Place → Type 0
IsProduct f (Ok products) = (AreZero f × (products ≡ replicate f.table.size zero_interval)) ⊎ ((¬ (AreZero f)) × AreProducts f products)
IsProduct f (Err p) = (¬ (AreZero f)) × IsUnfit f p

-- there is one product, or one first place, and never both
abbrev pub OneProduct : Type 0
OneProduct = (f : Factors) → IsOne (IsProduct f)
