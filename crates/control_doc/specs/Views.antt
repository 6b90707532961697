-- What the code holds, without where it lies in memory; and what its calls answer.
use Rattle.std.specs.Prelude.{◌≡◌, ℕ, List, map, Result, Ok, Err, string_bytes}
use Rattle.std.specs.Option.{option_map}
use Rattle.control_doc.specs.Faults.{PlainFault}
use Rattle.control_doc.specs.Plain.{PlainPlan, PlainDatum, PlainReduction, PlainControl}
use Rattle.control_doc.specs.declared.faults.ControlCause.{ControlCause}
use Rattle.control_doc.specs.declared.faults.ControlFault.{ControlFault}
use Rattle.control_doc.specs.declared.faults.ControlError.{ControlError}
use Rattle.control_doc.specs.declared.faults.ControlError.TheVariants as errors
use Rattle.control_doc.specs.declared.plans.FilePlan.{FilePlan}
use Rattle.control_doc.specs.declared.plans.Datum.{Datum}
use Rattle.control_doc.specs.declared.plans.Reduction.{Reduction}
use Rattle.control_doc.specs.declared.plans.Control.{Control}

abbrev pub fault_view : ControlFault → PlainFault
fault_view fault = record { cause = fault.cause; path = string_bytes fault.path }

abbrev pub plan_view : FilePlan → PlainPlan
plan_view plan = record { name = string_bytes plan.name; weight = plan.weight; group = string_bytes plan.group; form = plan.form; held = plan.held }

abbrev pub datum_view : Datum → PlainDatum
datum_view datum = record { sites = datum.sites.items; translation = datum.translation; rotation = datum.rotation; scale = datum.scale }

abbrev pub reduction_view : Reduction → PlainReduction
reduction_view reduction = record { place = reduction.place; of = string_bytes reduction.of; id = reduction.id }

abbrev pub control_view : Control → PlainControl
control_view control = record {
  header = record {
    agency = control.agency;
    created = control.created;
    technique = control.technique;
    content = control.content;
    description = string_bytes control.description;
    output = string_bytes control.output;
    contact = string_bytes control.contact;
  };
  run = record { reference = string_bytes control.reference; workers = control.workers };
  files = map plan_view control.files.items;
  datum = option_map datum_view control.datum;
  reductions = map reduction_view control.reductions.items;
  scales = control.scales;
}

-- the value or the fault that a relation says, or want of memory, which may come in the place of either
abbrev pub Answers : {T X : Type 0} → (T → X) → (Result X PlainFault → Type 0) → Result T ControlError → Type 0
Answers view IsResult (Ok x) = IsResult (Ok (view x))
Answers view IsResult (Err (errors.Fault fault)) = IsResult (Err (fault_view fault))
Answers view IsResult (Err errors.Memory) = Unit {0}

-- the error is this fault, or want of memory
abbrev pub IsFault : ControlError → ControlCause → List ℕ → Type 0
IsFault (errors.Fault fault) cause path = (fault.cause ≡ cause) × (string_bytes fault.path ≡ path)
IsFault errors.Memory cause path = Unit {0}
