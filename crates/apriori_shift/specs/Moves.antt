-- Exact systems at other a priori values. Fractions are compared by cross-multiplication, so nothing is rounded.
use Rattle.std.specs.Prelude.{◌≡◌, ◌<◌, ◌*◌, ℕ, ℤ, pos, ◌-ℤ◌, ◌*ℤ◌, List, map, Contains, Ok}
use Rattle.stated_order.specs.Steps.{HasOne}
use Rattle.param_ids.specs.Plain.{PlainId}
use Rattle.decimal_e.specs.Decimals.{Decimal}
use Rattle.decimal_e.specs.Fractions.{numerator, denominator}
use Rattle.neq_stack.specs.Neqs.{PlainNeq, IsSound}
use Rattle.neq_stack.specs.Systems.{NamedSystem, LiesInNeq, multiple, sum_of}
use Rattle.apriori_shift.specs.Shifts.{IsShift}

-- the fraction x / s is the difference of two decimals
abbrev pub IsExactDifference : Decimal → Decimal → ℤ → ℕ → Type 0
IsExactDifference to from x s =
    (numerator to *ℤ pos (denominator from) -ℤ numerator from *ℤ pos (denominator to)) *ℤ pos s ≡ x *ℤ pos (denominator to * denominator from)

-- row id of the matrix times numbers of these names
abbrev pub row_times : List PlainId → (PlainId → PlainId → ℤ) → PlainId → (PlainId → ℤ) → ℤ
row_times names a id x = sum_of (map (λ other. a id other *ℤ x other) names)

-- T is the system S over these names, taken from the a priori values old to the values new: with the differences new - old over one
-- denominator s, each element of the matrix is the same, and each right side is less by its row of the matrix times the differences.
pub record Moves (names : List PlainId) (old new : PlainId → Decimal) (S T : NamedSystem) : Type 0 where
  pub plain_some : 0 < S.q
  pub some : 0 < T.q
  pub s : ℕ
  pub s_some : 0 < s
  pub x : PlainId → ℤ
  pub differences : (id : PlainId) → Contains names id → IsExactDifference (new id) (old id) (x id) s
  pub matrix : (one other : PlainId) → T.a one other *ℤ pos S.q ≡ S.a one other *ℤ pos T.q
  pub right : (id : PlainId) → T.c id *ℤ pos (S.q * s) ≡ (S.c id *ℤ pos s -ℤ row_times names S.a id x) *ℤ pos T.q

-- ---- what is promised of it
-- each system can be taken to other values
abbrev pub SystemsMove : Type 0
SystemsMove = (names : List PlainId) (old new : PlainId → Decimal) (S : NamedSystem) → 0 < S.q → HasOne (Moves names old new S)

-- with a system also each multiple of it
abbrev pub MultiplesMove : Type 0
MultiplesMove = (names : List PlainId) (old new : PlainId → Decimal) (S T : NamedSystem) (k : ℕ) → 0 < k → Moves names old new S T → Moves names old new S (multiple k T)

-- where a system lies in normal equations, it lies, taken to other values, in the normal equations at these
abbrev pub ShiftHolds : Type 0
ShiftHolds = (exponent : PlainId → ℤ) (old new : PlainId → Decimal) (neq after : PlainNeq) (S T : NamedSystem)
    → IsSound neq → neq.scales ≡ map exponent neq.names → neq.apriori ≡ map old neq.names
    → LiesInNeq exponent neq S → IsShift (map new neq.names) neq (Ok after) → Moves neq.names old new S T → LiesInNeq exponent after T
