-- The numbers that are printed of each row: bounds and estimate in units of 10^-16, the residual of the estimates, and the deviation.
--
-- t is the working table, R its approximate inverse, x0 the a priori values, y the start vector and w the radii. e_i is the power of row i:
-- its exponent in the working table plus the scale exponent of its parameter, so that one unit of y in row i is 10^-(12 + e_i) of the
-- parameter's own. The scales and bounds are this program's own.
use Rattle.std.specs.Prelude.{◌≡◌, ◌≤◌, ◌<◌, ◌+◌, ◌*◌, ◌/◌, ◌^◌, ℕ, suc, ℤ, pos, negsuc, ◌+ℤ◌, ◌-ℤ◌, ◌*ℤ◌, ◌≤ℤ◌, nat_le, nat_lt, if◌then◌else◌, unsigned_abs, List, length, slice_index_or}
use Rattle.whole_numbers.specs.Sum.{total_to}
use Rattle.whole_numbers.specs.Least.{least_below}
use Rattle.whole_numbers.specs.Intervals.{Interval, size, point_interval, interval_sub, interval_mul, sum_intervals}
use Rattle.whole_numbers.specs.Scaling.{floor_scaled, ceil_scaled, interval_scale10}
use Rattle.decimal_e.specs.Decimals.{Decimal}
use Rattle.decimal_e.specs.Scales.{decimal_interval}
use Rattle.whole_numbers.specs.Lists.{at}
use Rattle.sys_model.specs.Systems.{Table}
use Rattle.equil.specs.Tables.{exponent_of}
use Rattle.enclosures.specs.Pilots.{PilotTable, pilot_entry}
use Rattle.bounds_report.specs.Digits.{to_15_digits}
use Rattle.bounds_report.specs.declared.numbers.Printed.{Printed}

-- the decimals of a list
abbrev pub decimal_at : List Decimal → ℕ → Decimal
decimal_at ds i = slice_index_or ds i (record { mant = pos 0; exp = pos 0 })

-- the power of row i, from the exponents of the working table and the scale exponents of the parameters
abbrev pub row_power : List ℤ → List ℤ → ℕ → ℤ
row_power exponents scales i = exponent_of exponents i +ℤ at scales i

-- a scale exponent is from -4 to 6
pub record IsScaleExponent (t : ℤ) : Type 0 where
  pub least : negsuc 3 ≤ℤ t
  pub most : t ≤ℤ pos 6

abbrev pub AreScaleExponents : List ℤ → Type 0
AreScaleExponents scales = (i : ℕ) → i < length scales → IsScaleExponent (at scales i)

-- what the radius and the start vector add to the ends of the a priori value
abbrev pub low_term : ℤ → ℤ → ℕ → ℤ
low_term e y w = floor_scaled (y -ℤ pos w) (pos 4 -ℤ e)

abbrev pub high_term : ℤ → ℤ → ℕ → ℤ
high_term e y w = ceil_scaled (y +ℤ pos w) (pos 4 -ℤ e)

-- the printed bounds and the printed estimate of one row
abbrev pub lower_of : Decimal → ℤ → ℤ → ℕ → ℤ
lower_of x0 e y w = (decimal_interval x0 (pos 16)).lo +ℤ low_term e y w

abbrev pub upper_of : Decimal → ℤ → ℤ → ℕ → ℤ
upper_of x0 e y w = (decimal_interval x0 (pos 16)).hi +ℤ high_term e y w

abbrev pub estimate_of : Decimal → ℤ → ℤ → ℤ
estimate_of x0 e y = to_15_digits ((decimal_interval x0 (pos 16)).lo +ℤ floor_scaled y (pos 4 -ℤ e))

-- they and their terms are small enough to be printed
pub record IsPrintable (x0 : Decimal) (e y : ℤ) (w : ℕ) : Type 0 where
  pub low : unsigned_abs (low_term e y w) ≤ 10 ^ 37
  pub high : unsigned_abs (high_term e y w) ≤ 10 ^ 37
  pub lower : unsigned_abs (lower_of x0 e y w) ≤ 10 ^ 37
  pub upper : unsigned_abs (upper_of x0 e y w) ≤ 10 ^ 37
  pub estimate : unsigned_abs (estimate_of x0 e y) ≤ 10 ^ 33

-- the interval of the estimate minus x0 at 10^20: zero where the estimate is x0
abbrev pub difference : Decimal → ℤ → Interval
difference x0 estimate =
    if nat_le (size (interval_sub (decimal_interval x0 (pos 16)) (point_interval estimate))) 0 then point_interval (pos 0)
    else interval_sub (point_interval (estimate *ℤ pos (10 ^ 4))) (decimal_interval x0 (pos 20))

-- that interval in units of the working table
abbrev pub working_difference : Decimal → ℤ → ℤ → Interval
working_difference x0 e y = interval_scale10 (difference x0 (estimate_of x0 e y)) (e -ℤ pos 8)

-- the sizes of the first k working differences add up to at most 2^65
abbrev pub DifferencesFit : ℕ → (ℕ → ℤ) → (ℕ → Decimal) → (ℕ → ℤ) → Type 0
DifferencesFit k e x0 y = total_to k (λ j. size (working_difference (x0 j) (e j) (y j))) ≤ 2 ^ 65

-- what the estimates leave of the right side in row i
abbrev pub estimate_residual : ℕ → Table → (ℕ → ℤ) → (ℕ → Decimal) → (ℕ → ℤ) → ℕ → Interval
estimate_residual n t e x0 y i = interval_sub (t.right i) (sum_intervals n (λ j. interval_mul (t.entry i j) (working_difference (x0 j) (e j) (y j))))

-- the whole part of the square root
abbrev pub square_root : ℕ → ℕ
square_root n = least_below (suc n) (λ r. nat_lt n (suc r * suc r))

-- the whole part of r * 10^28 / 2^(60 + g), and 0 where r is below 0
abbrev pub variance_of : ℕ → ℤ → ℕ
variance_of g (pos r) = r * 10 ^ 28 / 2 ^ (60 + g)
variance_of g (negsuc r) = 0

-- The standard deviation of row i in units of 10^-(5 + e_i), rounded down, where r is R_ii in its units of 2^-(g + 60): the root of the
-- diagonal element of the normal equations' approximate inverse. It isn't certified.
abbrev pub deviation_of : ℕ → ℤ → ℕ
deviation_of g r = square_root (variance_of g r)

-- the numbers of row i, with the residual in units of 10^(e_i - 30) and the deviation in units of 10^-(5 + e_i)
abbrev pub numbers_of : ℕ → Table → PilotTable → (ℕ → ℤ) → (ℕ → Decimal) → (ℕ → ℤ) → (ℕ → ℕ) → ℕ → Printed
numbers_of n t p e x0 y w i = record {
  estimate = estimate_of (x0 i) (e i) (y i);
  lower = lower_of (x0 i) (e i) (y i) (w i);
  upper = upper_of (x0 i) (e i) (y i) (w i);
  residual = size (estimate_residual n t e x0 y i);
  place = e i -ℤ pos 30;
  deviation = deviation_of p.g (pilot_entry p i i);
  deviation_place = negsuc 4 -ℤ e i;
}

-- the numbers of a list
abbrev pub numbers_at : List Printed → ℕ → Printed
numbers_at ps i = slice_index_or ps i (record { estimate = pos 0; lower = pos 0; upper = pos 0; residual = 0; place = pos 0; deviation = 0; deviation_place = pos 0 })

-- the list has the numbers of all n rows, and all of them can be printed
pub record ArePrinted (n : ℕ) (t : Table) (p : PilotTable) (e : ℕ → ℤ) (x0 : ℕ → Decimal) (y : ℕ → ℤ) (w : ℕ → ℕ) (ps : List Printed) : Type 0 where
  pub printable : (i : ℕ) → i < n → IsPrintable (x0 i) (e i) (y i) (w i)
  pub differences : DifferencesFit n e x0 y
  pub len : length ps ≡ n
  pub rows : (i : ℕ) → i < n → numbers_at ps i ≡ numbers_of n t p e x0 y w i

-- a power of ten from -60 to 60
pub record IsNearPower (k : ℤ) : Type 0 where
  pub least : negsuc 59 ≤ℤ k
  pub most : k ≤ℤ pos 60

-- the deviation is below 2^64, and both places are near powers
pub record HasSmallDeviation (p : Printed) : Type 0 where
  pub deviation : p.deviation < 2 ^ 64
  pub place : IsNearPower p.place
  pub deviation_place : IsNearPower p.deviation_place
