-- Covariances from correlations and standard deviations (SINEX 2.02 format description: the type CORR of SOLUTION/MATRIX_ESTIMATE and
-- SOLUTION/MATRIX_APRIORI).
use Rattle.std.specs.Prelude.{◌≡◌, ◌<◌, ◌&&◌, ℕ, ℤ, pos, Bool, if◌then◌else◌, List, Option, Some, Contains}
use Rattle.std.specs.List.{list_all}
use Rattle.std.specs.Ordering.{int_eq}
use Rattle.decimal_e.specs.Decimals.{Decimal, product}
use Rattle.decimal_e.specs.Fractions.{Means}
use Rattle.param_ids.specs.Plain.{PlainId}
use Rattle.param_ids.specs.Order.{is_same_id}
use Rattle.snx_rows.specs.declared.rows.Row.{Row}
use Rattle.snx_matrices.specs.Named.{element_of}
use Rattle.snx_matrices.specs.declared.elements.Cell.{Cell}
use Rattle.named_tables.specs.Deviations.{positive, sigma_of}
use Rattle.named_tables.specs.Weighted.{one_decimal}

-- ---- standard deviations
abbrev pub is_one : Decimal → Bool
is_one d = int_eq d.mant (pos 1) && int_eq d.exp (pos 0)

-- the diagonal element of each of these names is exactly 1
abbrev pub has_ones : List Row → List Cell → List PlainId → Bool
has_ones rows cells names = list_all (λ id. is_one (element_of rows cells id id)) names

-- the standard deviation of a name, where it is positive: that of its row where all diagonal elements are 1, and else its diagonal element
abbrev pub deviation_of : List Row → List Cell → List PlainId → PlainId → Option Decimal
deviation_of rows cells names id = if has_ones rows cells names then sigma_of rows id else positive (element_of rows cells id id)

-- ---- covariances
-- the correlation of two names: 1 for a name with itself
abbrev pub correlation_of : List Row → List Cell → PlainId → PlainId → Decimal
correlation_of rows cells one other = if is_same_id one other then one_decimal else element_of rows cells one other

-- x / q is the covariance of two names: their correlation times both standard deviations
pub record IsCorrelated (rows : List Row) (cells : List Cell) (names : List PlainId) (one other : PlainId) (x : ℤ) (q : ℕ) : Type 0 where
  pub s : Decimal
  pub t : Decimal
  pub s_is : deviation_of rows cells names one ≡ Some s
  pub t_is : deviation_of rows cells names other ≡ Some t
  pub means : Means (product (correlation_of rows cells one other) (product s t)) x q

-- the covariances of all pairs of names over one denominator
pub record AreCorrelatedBy (rows : List Row) (cells : List Cell) (names : List PlainId) (q : ℕ) (x : PlainId → PlainId → ℤ) : Type 0 where
  pub some : 0 < q
  pub each : (one other : PlainId) → Contains names one → Contains names other → IsCorrelated rows cells names one other (x one other) q
