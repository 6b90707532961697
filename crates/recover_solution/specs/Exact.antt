-- The exact systems of a solution (Brockmann 1997, section 2): its estimates solve E (x - estimates) = 0, where E is the information matrix
-- times the weight of its file. At the a priori values x0 of its rows that is E (x - x0) = E (estimates - x0). The constraints K (x - x0) = 0
-- are part of it, and are taken out. That constraints pull to the a priori values is this program's own reading of the format.
use Rattle.std.specs.Prelude.{◌≡◌, ◌<◌, ◌*◌, ◌∷◌, [], ℕ, ℤ, pos, ◌*ℤ◌, List, Option, None, Some}
use Rattle.stated_order.specs.Steps.{HasOne}
use Rattle.decimal_e.specs.Decimals.{Decimal}
use Rattle.decimal_e.specs.Fractions.{numerator, denominator}
use Rattle.param_ids.specs.Plain.{PlainId}
use Rattle.snx_rows.specs.Named.{value_of}
use Rattle.snx_rows.specs.declared.rows.Row.{Row}
use Rattle.neq_stack.specs.Systems.{NamedSystem, IsSumOf, multiple}
use Rattle.named_tables.specs.Deviations.{sigma_at}
use Rattle.apriori_shift.specs.Moves.{Moves}
use Rattle.recover_solution.specs.Solutions.{PlainSolution}

-- the system has nothing on its right side
abbrev pub HasNoRight : NamedSystem → Type 0
HasNoRight S = (id : PlainId) → S.c id ≡ pos 0

-- ---- constraints of standard deviations
-- x / q times the square of a standard deviation is the weight; where there is none x is zero
abbrev pub IsOverSigma : Decimal → Option Decimal → ℤ → ℕ → Type 0
IsOverSigma weight None x q = x ≡ pos 0
IsOverSigma weight (Some s) x q = (x *ℤ pos (denominator weight)) *ℤ (numerator s *ℤ numerator s) ≡ numerator weight *ℤ pos (q * (denominator s * denominator s))

-- K has for each name and itself the weight over the square of its standard deviation, zero elsewhere, and nothing on its right side
pub record AreSigmaConstraints (apriori : List Row) (weight : Decimal) (K : NamedSystem) : Type 0 where
  pub some : 0 < K.q
  pub matrix : (one other : PlainId) → IsOverSigma weight (sigma_at apriori one other) (K.a one other) K.q
  pub right : HasNoRight K

-- ---- the solution at its a priori values, without its constraints
-- S together with the constraints K is the system E, taken from the estimates of these names to their a priori values
pub record IsFreedSystem (solution : PlainSolution) (names : List PlainId) (E K S : NamedSystem) : Type 0 where
  pub moved : NamedSystem
  pub moves : Moves names (value_of solution.estimates) (value_of solution.apriori) E moved
  pub sum : IsSumOf (S ∷ K ∷ []) moved

-- ---- what is promised of them
-- there are constraints of standard deviations, and with them each multiple of them
abbrev pub SigmasConstrain : Type 0
SigmasConstrain = (apriori : List Row) (weight : Decimal) → HasOne (AreSigmaConstraints apriori weight)

abbrev pub MultiplesConstrain : Type 0
MultiplesConstrain = (apriori : List Row) (weight : Decimal) (K : NamedSystem) (k : ℕ) → 0 < k → AreSigmaConstraints apriori weight K → AreSigmaConstraints apriori weight (multiple k K)

-- some multiple of any constraints can be taken out of any system, and with a system that is left each multiple of it is left, of the
-- same multiple of the constraints
abbrev pub SystemsAreFreed : Type 0
SystemsAreFreed = (solution : PlainSolution) (names : List PlainId) (E K : NamedSystem) → 0 < E.q → 0 < K.q → (k : ℕ) × (0 < k) × HasOne (IsFreedSystem solution names E (multiple k K))

abbrev pub MultiplesAreFreed : Type 0
MultiplesAreFreed = (solution : PlainSolution) (names : List PlainId) (E K S : NamedSystem) (k : ℕ) → 0 < k → IsFreedSystem solution names E K S → IsFreedSystem solution names E (multiple k K) (multiple k S)
