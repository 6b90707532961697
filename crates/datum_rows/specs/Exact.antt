-- The exact system of a datum.
use Rattle.std.specs.Prelude.{◌≡◌, ◌<◌, ℕ, ℤ, pos, ◌*ℤ◌, neg_ℤ, ◌∷◌, List, [], map, Ok}
use Rattle.stated_order.specs.Lists.{AreEach}
use Rattle.stated_order.specs.Steps.{HasOne}
use Rattle.sys_model.specs.Scaling.{TimesPower}
use Rattle.inverse_squares.specs.Quotients.{square, power_left}
use Rattle.param_ids.specs.Plain.{PlainId}
use Rattle.control_doc.specs.Plain.{PlainDatum}
use Rattle.control_doc.specs.Valid.{HasPositiveSigmas}
use Rattle.control_doc.specs.declared.plans.Site.{Site}
use Rattle.neq_stack.specs.Neqs.{PlainNeq, IsSound}
use Rattle.neq_stack.specs.Systems.{NamedSystem, LiesInNeq, IsSumOf, multiple}
use Rattle.datum_rows.specs.Conditions.{Condition, conditions, reach}
use Rattle.datum_rows.specs.Sites.{coefficient_in}
use Rattle.datum_rows.specs.Additions.{IsAddition}

-- The normal equations of one condition: its coefficients h at two names give h h' / s^2, over 10^14 for a rotation or a dilation, and
-- the right side is zero.
pub record IsConditionSystem (sites : List Site) (neq : PlainNeq) (condition : Condition) (S : NamedSystem) : Type 0 where
  pub some : 0 < S.q
  pub matrix : (one other : PlainId) → TimesPower (coefficient_in sites neq condition.motion one *ℤ coefficient_in sites neq condition.motion other) (square condition.sigma) (power_left condition.sigma (neg_ℤ (pos (reach condition.motion)))) (S.a one other) S.q
  pub right : (id : PlainId) → S.c id ≡ pos 0

-- the sum of those of all conditions
pub record IsDatumSystem (datum : PlainDatum) (neq : PlainNeq) (S : NamedSystem) : Type 0 where
  pub systems : List NamedSystem
  pub each : AreEach (IsConditionSystem datum.sites neq) (conditions datum) systems
  pub sum : IsSumOf systems S

-- ---- what is promised of it
-- a datum has a system
abbrev pub DatumExists : Type 0
DatumExists = (datum : PlainDatum) (neq : PlainNeq) → HasPositiveSigmas datum → HasOne (IsDatumSystem datum neq)

-- with a system also each multiple of it
abbrev pub DatumMultiples : Type 0
DatumMultiples = (datum : PlainDatum) (neq : PlainNeq) (S : NamedSystem) (k : ℕ) → 0 < k → IsDatumSystem datum neq S → IsDatumSystem datum neq (multiple k S)

-- where a system lies in normal equations, its sum with the datum's lies in those with the datum's rows
abbrev pub DatumHolds : Type 0
DatumHolds = (exponent : PlainId → ℤ) (datum : PlainDatum) (neq after : PlainNeq) (S D T : NamedSystem)
    → IsSound neq → neq.scales ≡ map exponent neq.names → HasPositiveSigmas datum → LiesInNeq exponent neq S
    → IsAddition datum neq (Ok after) → IsDatumSystem datum neq D → IsSumOf (S ∷ D ∷ []) T → LiesInNeq exponent after T
