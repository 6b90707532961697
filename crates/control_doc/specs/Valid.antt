-- What every control keeps, whatever its text.
use Rattle.std.specs.Prelude.{◌≡◌, ◌≢◌, ◌≤◌, true, length, IfSome}
use Rattle.std.specs.List.{All, AllPairs}
use Rattle.snx_epoch.specs.Moments.{IsMoment}
use Rattle.param_ids.specs.Tables.{IsScaleMap}
use Rattle.control_doc.specs.Control.{is_positive_and_short}
use Rattle.decimal_e.specs.Decimals.{Decimal}
use Rattle.control_doc.specs.Plain.{PlainPlan, PlainDatum, PlainControl}

-- a number is positive and has at most 9 digits
abbrev pub IsPositiveAndShort : Decimal → Type 0
IsPositiveAndShort d = is_positive_and_short d ≡ true

-- so is each standard deviation that a datum gives
pub record HasPositiveSigmas (datum : PlainDatum) : Type 0 where
  pub translation : IfSome datum.translation IsPositiveAndShort
  pub rotation : IfSome datum.rotation IsPositiveAndShort
  pub scale : IfSome datum.scale IsPositiveAndShort

-- 1 to 64 files, of which no two have one name, each with a positive weight of at most 9 digits; a datum, if there is one, with positive
-- standard deviations of at most 9 digits; at most 64 scale exponents, each from -4 to 6; and a time of creation that is a moment
pub record IsValidControl (control : PlainControl) : Type 0 where
  pub some : 1 ≤ length control.files
  pub few : length control.files ≤ 64
  pub apart : AllPairs (λ (one : PlainPlan) (other : PlainPlan). one.name ≢ other.name) control.files
  pub weights : All (λ (plan : PlainPlan). IsPositiveAndShort plan.weight) control.files
  pub sigmas : IfSome control.datum HasPositiveSigmas
  pub scales : IsScaleMap control.scales
  pub created : IsMoment control.header.created

-- a name of 1 to 60 bytes
abbrev pub IsFileName : PlainPlan → Type 0
IsFileName plan = (1 ≤ length plan.name) × (length plan.name ≤ 60)

-- each file has such a name
abbrev pub AreNamed : PlainControl → Type 0
AreNamed control = All IsFileName control.files
