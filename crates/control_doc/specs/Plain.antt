-- What a control file says, without where it lies in memory.
use Rattle.std.specs.Prelude.{ℕ, List, Option}
use Rattle.snx_epoch.specs.declared.Epoch.{Epoch}
use Rattle.decimal_e.specs.Decimals.{Decimal}
use Rattle.param_ids.specs.Plain.{PlainId}
use Rattle.param_ids.specs.Tables.{ScaleMap}
use Rattle.control_doc.specs.declared.plans.Form.{Form}
use Rattle.control_doc.specs.declared.plans.Held.{Held}
use Rattle.control_doc.specs.declared.plans.Place.{Place}
use Rattle.control_doc.specs.declared.plans.Site.{Site}

-- a file that is combined: its name, its weight, the group that it is in (empty for none), its form, and which of its constraints
-- are removed
pub record PlainPlan : Type 0 where
  pub name : List ℕ
  pub weight : Decimal
  pub group : List ℕ
  pub form : Form
  pub held : Held

-- datum rows over these sites, each kind with its standard deviation
pub record PlainDatum : Type 0 where
  pub sites : List Site
  pub translation : Option Decimal
  pub rotation : Option Decimal
  pub scale : Option Decimal

-- a parameter that is reduced, and where: at a file, at a group or at the end
pub record PlainReduction : Type 0 where
  pub place : Place
  pub of : List ℕ
  pub id : PlainId

-- what the header of the combined file says; an empty text is not given
pub record PlainOutput : Type 0 where
  pub agency : List ℕ
  pub created : Epoch
  pub technique : ℕ
  pub content : ℕ
  pub description : List ℕ
  pub output : List ℕ
  pub contact : List ℕ

-- the file whose a priori values are taken (empty for none), and how many work
pub record PlainRun : Type 0 where
  pub reference : List ℕ
  pub workers : ℕ

pub record PlainControl : Type 0 where
  pub header : PlainOutput
  pub run : PlainRun
  pub files : List PlainPlan
  pub datum : Option PlainDatum
  pub reductions : List PlainReduction
  pub scales : ScaleMap
