-- The parts of a product: the working table, the scaled differences and the rows.
use Rattle.std.specs.Prelude.{◌≡◌, ◌≤◌, ◌<◌, ◌^◌, ℕ, suc, ℤ, pos, ◌+ℤ◌, ◌-ℤ◌, List, length, slice_index_or}
use Rattle.stated_order.specs.First.{IsFirstFailure, IsFirstLowerFailure}
use Rattle.whole_numbers.specs.Sum.{total_to}
use Rattle.whole_numbers.specs.Lists.{at}
use Rattle.whole_numbers.specs.Scaling.{interval_scale10}
use Rattle.whole_numbers.specs.Intervals.{Interval, interval_mul, sum_intervals, size}
use Rattle.sym_blocks.specs.Tables.{SymTable, entry_at, zero_interval}
use Rattle.equil.specs.Tables.{AreExponents, EntryFits, exponent_of, working_entry}
use Rattle.difference_products.specs.Products.{Place}

-- interval j of a list
abbrev pub interval_of : List Interval → ℕ → Interval
interval_of zs j = slice_index_or zs j zero_interval

-- a place on the diagonal whose row has the property
abbrev pub OnDiagonal : (ℕ → Type 0) → Place → Type 0
OnDiagonal P p = (p.row ≡ p.col) × P p.row

-- ---- the working table
-- a is the working table of t, with the exponents e
pub record IsWorkingTable (t a : SymTable) (e : ℕ → ℤ) : Type 0 where
  pub rows : a.size ≡ t.size
  pub exponents : AreExponents t.size (entry_at t) e
  pub entries : (i j : ℕ) → i < t.size → j < t.size → entry_at a i j ≡ working_entry (entry_at t) e i j

-- the place of its first interval past its bound
pub record IsFirstWide (t : SymTable) (p : Place) : Type 0 where
  pub e : ℕ → ℤ
  pub exponents : AreExponents t.size (entry_at t) e
  pub first : IsFirstLowerFailure t.size (EntryFits (entry_at t) e) p.row p.col

-- ---- the differences
-- difference j in the units of the working table, from the differences, the scale exponents and the exponents
abbrev pub scaled_of : List Interval → List ℤ → List ℤ → ℕ → Interval
scaled_of ds ts es j = interval_scale10 (interval_of ds j) (at ts j +ℤ exponent_of es j -ℤ pos 8)

-- the sizes of the first k of them add up to at most 2^64
abbrev pub SizesFit : List Interval → List ℤ → List ℤ → ℕ → Type 0
SizesFit ds ts es k = total_to k (λ j. size (scaled_of ds ts es j)) ≤ 2 ^ 64

-- the list has the first n of them
pub record AreScaledTo (n : ℕ) (ds : List Interval) (ts es : List ℤ) (zs : List Interval) : Type 0 where
  pub len : length zs ≡ n
  pub fit : SizesFit ds ts es n
  pub each : (j : ℕ) → j < n → interval_of zs j ≡ scaled_of ds ts es j

-- they fit up to row, and with it they do not
abbrev pub IsFirstFar : ℕ → List Interval → List ℤ → List ℤ → ℕ → Type 0
IsFirstFar n ds ts es row = IsFirstFailure n (λ j. SizesFit ds ts es (suc j)) row

-- ---- the rows
-- a list of n intervals, with sizes of at most 2^64 in sum
pub record AreSmall (n : ℕ) (zs : List Interval) : Type 0 where
  pub len : length zs ≡ n
  pub sum : total_to n (λ j. size (interval_of zs j)) ≤ 2 ^ 64

-- the first n columns of row i of the table times the intervals of a list
abbrev pub sum_of_row : SymTable → List Interval → ℕ → ℕ → Interval
sum_of_row a zs i n = sum_intervals n (λ j. interval_mul (entry_at a i j) (interval_of zs j))

-- the product of row i
abbrev pub product_of_row : SymTable → List Interval → List ℤ → ℕ → Interval
product_of_row a zs es i = interval_scale10 (sum_of_row a zs i a.size) (exponent_of es i -ℤ pos 12)

-- it is at most 10^34 in size
abbrev pub RowFits : SymTable → List Interval → List ℤ → ℕ → Type 0
RowFits a zs es i = size (product_of_row a zs es i) ≤ 10 ^ 34

-- the list has the products of the first n rows
pub record AreProductsTo (n : ℕ) (a : SymTable) (zs : List Interval) (es : List ℤ) (products : List Interval) : Type 0 where
  pub len : length products ≡ n
  pub fit : (i : ℕ) → i < n → RowFits a zs es i
  pub each : (i : ℕ) → i < n → interval_of products i ≡ product_of_row a zs es i
