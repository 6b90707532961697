-- The control of a single file, of which nothing but its name is said.
use Rattle.std.specs.Prelude.{ℕ, List, [], ◌∷◌, None, codes}
use Rattle.snx_epoch.specs.declared.Epoch.TheVariants.{Never}
use Rattle.param_ids.specs.Tables.{standard_scales}
use Rattle.control_doc.specs.Control.{one}
use Rattle.control_doc.specs.Plain.{PlainPlan, PlainControl}
use Rattle.control_doc.specs.declared.plans.Form.TheVariants as forms
use Rattle.control_doc.specs.declared.plans.Held.TheVariants as held

abbrev pub alone_plan : List ℕ → PlainPlan
alone_plan name = record { name = name; weight = one; group = []; form = forms.Auto; held = held.Auto }

-- that file, with all defaults, made by no agency and at no moment
abbrev pub alone_control : List ℕ → PlainControl
alone_control name = record {
  header = record { agency = codes "XXX"; created = Never; technique = 67; content = 83; description = []; output = []; contact = [] };
  run = record { reference = []; workers = 1 };
  files = alone_plan name ∷ [];
  datum = None;
  reductions = [];
  scales = standard_scales;
}
