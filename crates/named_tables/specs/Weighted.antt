-- Numbers times the weight of their file, and their intervals by the scale exponents of names.
use Rattle.std.specs.Prelude.{◌≤◌, ◌<◌, ◌^◌, ℤ, pos, ◌+ℤ◌, ◌-ℤ◌, ◌<ℤ◌, unsigned_abs, List}
use Rattle.whole_numbers.specs.Intervals.{Interval, interval_scale, size}
use Rattle.whole_numbers.specs.Scaling.{interval_scale10}
use Rattle.decimal_e.specs.Decimals.{Decimal, IsCanonicalOf, IsBounded, product}
use Rattle.decimal_e.specs.Scales.{decimal_interval}
use Rattle.param_ids.specs.Plain.{PlainId}
use Rattle.param_ids.specs.Tables.{ScaleMap, scale_in}
use Rattle.snx_rows.specs.Named.{value_of}
use Rattle.snx_rows.specs.declared.rows.Row.{Row}
use Rattle.snx_matrices.specs.Named.{element_of}
use Rattle.snx_matrices.specs.declared.elements.Cell.{Cell}
use Rattle.snx_matrices.specs.declared.elements.Content.{Content}
use Rattle.snx_matrices.specs.declared.elements.Content.TheVariants.{Cova, Corr, Info}

-- ---- numbers
abbrev pub one_decimal : Decimal
one_decimal = record { mant = pos 1; exp = pos 0 }

-- the element of a matrix for two names, and the value of the row of a name, times the weight
abbrev pub weighted_element : List Row → List Cell → Decimal → PlainId → PlainId → Decimal
weighted_element rows cells weight one other = product weight (element_of rows cells one other)

abbrev pub weighted_value : List Row → Decimal → PlainId → Decimal
weighted_value rows weight id = product weight (value_of rows id)

-- ---- powers of ten
-- the scale exponent of a name
abbrev pub scale_of : ScaleMap → PlainId → ℤ
scale_of scales id = scale_in scales id.kind

-- the power of ten of a matrix for two names: 18 less their scale exponents
abbrev pub entry_power : ScaleMap → PlainId → PlainId → ℤ
entry_power scales one other = pos 18 -ℤ scale_of scales one -ℤ scale_of scales other

-- that of a right side for a name: 18 less its scale exponent
abbrev pub right_power : ScaleMap → PlainId → ℤ
right_power scales id = pos 18 -ℤ scale_of scales id

-- that of an element by what its matrix has: of an information matrix as above, of covariances 24 and the scale exponents of both names, of
-- correlations 18
abbrev pub element_power : Content → ScaleMap → PlainId → PlainId → ℤ
element_power Info scales one other = entry_power scales one other
element_power Cova scales one other = pos 24 +ℤ scale_of scales one +ℤ scale_of scales other
element_power Corr scales one other = pos 18

-- ---- intervals times a weight
-- a weight is positive and has at most 9 digits
pub record IsWeight (weight : Decimal) : Type 0 where
  pub some : pos 0 <ℤ weight.mant
  pub few : unsigned_abs weight.mant < 10 ^ 9

-- an interval times the weight: times its digits, and then times its power of ten, rounded outward
abbrev pub weighted_interval : Decimal → Interval → Interval
weighted_interval weight v = interval_scale10 (interval_scale weight.mant v) weight.exp

-- it is at most 10^37 in size before the power of ten, and at most 10^34 after it
pub record WeightFits (weight : Decimal) (v : Interval) : Type 0 where
  pub digits : size (interval_scale weight.mant v) ≤ 10 ^ 37
  pub modest : size (weighted_interval weight v) ≤ 10 ^ 34

-- ---- bounds
-- the number is a decimal of the type, and its interval at 10^k is at most 10^34 in size
pub record Fits (number : Decimal) (k : ℤ) : Type 0 where
  pub bounded : (d : Decimal) → IsCanonicalOf d number → IsBounded d
  pub modest : size (decimal_interval number k) ≤ 10 ^ 34
