-- The information matrices that a matrix of a text stands for: itself, or the inverses of its covariances (SINEX 2.02 format description:
-- SOLUTION/MATRIX_ESTIMATE and SOLUTION/MATRIX_APRIORI; Brockmann 1997, section 2), times the weight of the file.
use Rattle.std.specs.Prelude.{◌≡◌, ◌<◌, ◌*◌, ℕ, ℤ, pos, ◌*ℤ◌, List, length, Some, Contains, slice_get}
use Rattle.sys_model.specs.Systems.{System}
use Rattle.decimal_e.specs.Decimals.{Decimal}
use Rattle.decimal_e.specs.Fractions.{Means, numerator, denominator}
use Rattle.param_ids.specs.Plain.{PlainId}
use Rattle.snx_rows.specs.declared.rows.Row.{Row}
use Rattle.snx_matrices.specs.Named.{element_of}
use Rattle.snx_matrices.specs.declared.elements.Cell.{Cell}
use Rattle.snx_matrices.specs.declared.elements.Content.{Content}
use Rattle.snx_matrices.specs.declared.elements.Content.TheVariants.{Cova, Corr, Info}
use Rattle.neq_stack.specs.Systems.{NamedSystem, over, multiple}
use Rattle.named_tables.specs.Weighted.{weighted_element}
use Rattle.correlations.specs.Exact.{IsCorrelated}
use Rattle.inv_enclose.specs.Inverses.{IsInverse}

-- ---- an information matrix as it stands
-- E has at all names the elements of the matrix, times the weight, and nothing on its right side
pub record IsGiven (rows : List Row) (cells : List Cell) (weight : Decimal) (E : NamedSystem) : Type 0 where
  pub some : 0 < E.q
  pub elements : (one other : PlainId) → Means (weighted_element rows cells weight one other) (E.a one other) E.q
  pub right : (id : PlainId) → E.c id ≡ pos 0

-- ---- the inverses of covariances
-- x / q is the covariance of two names: their element, or their correlation times both standard deviations
abbrev pub IsCovariance : Content → List Row → List Cell → List PlainId → PlainId → PlainId → ℤ → ℕ → Type 0
IsCovariance Info rows cells names one other x q = ⊥
IsCovariance Cova rows cells names one other x q = Means (element_of rows cells one other) x q
IsCovariance Corr rows cells names one other x q = IsCorrelated rows cells names one other x q

-- Q has the covariances of these names
pub record HasCovariances (content : Content) (rows : List Row) (cells : List Cell) (names : List PlainId) (Q : NamedSystem) : Type 0 where
  pub some : 0 < Q.q
  pub elements : (one other : PlainId) → Contains names one → Contains names other → IsCovariance content rows cells names one other (Q.a one other) Q.q

-- E is the weight times an inverse of Q over these names, zero at every other name, and has nothing on its right side
pub record IsWeightOver (names : List PlainId) (weight : Decimal) (Q E : NamedSystem) : Type 0 where
  pub some : 0 < E.q
  pub inverse : System
  pub inverts : IsInverse (length names) (over names Q) inverse
  pub elements : (i j : ℕ) (one other : PlainId) → slice_get names i ≡ Some one → slice_get names j ≡ Some other
      → E.a one other *ℤ pos (inverse.q * denominator weight) ≡ (inverse.a i j *ℤ numerator weight) *ℤ pos E.q
  pub no_row : (one other : PlainId) → (Contains names one → ⊥) → E.a one other ≡ pos 0
  pub no_column : (one other : PlainId) → (Contains names other → ⊥) → E.a one other ≡ pos 0
  pub right : (id : PlainId) → E.c id ≡ pos 0

pub record IsOverCovariances (content : Content) (rows : List Row) (cells : List Cell) (names : List PlainId) (weight : Decimal) (E : NamedSystem) : Type 0 where
  pub Q : NamedSystem
  pub covariances : HasCovariances content rows cells names Q
  pub over_them : IsWeightOver names weight Q E

-- ---- both
-- E is an information matrix of a matrix over these rows, for these names
abbrev pub IsInformation : Content → List Row → List Cell → List PlainId → Decimal → NamedSystem → Type 0
IsInformation Info rows cells names weight E = IsGiven rows cells weight E
IsInformation Cova rows cells names weight E = IsOverCovariances Cova rows cells names weight E
IsInformation Corr rows cells names weight E = IsOverCovariances Corr rows cells names weight E

-- ---- what is promised of it
-- with an information matrix also each multiple of it
abbrev pub MultiplesAreInformation : Type 0
MultiplesAreInformation = (content : Content) (rows : List Row) (cells : List Cell) (names : List PlainId) (weight : Decimal) (E : NamedSystem) (k : ℕ) → 0 < k
    → IsInformation content rows cells names weight E → IsInformation content rows cells names weight (multiple k E)
