-- The control file of a command: what it says, and what is tested of it before any of its files is read.
use Rattle.std.specs.Prelude.{◌≡◌, ◌∷◌, ◌||◌, ℕ, Bool, List, [], Option, Some, None, Result, Ok, Err}
use Rattle.std.specs.List.{find}
use Rattle.std.specs.Str.{bytes_eq}
use Rattle.stated_order.specs.Steps.{Then, Renamed}
use Rattle.desk_io.specs.Content.{File}
use Rattle.control_doc.specs.Control.{IsRead}
use Rattle.control_doc.specs.Faults.{PlainFault}
use Rattle.control_doc.specs.Plain.{PlainPlan, PlainReduction, PlainControl}
use Rattle.control_doc.specs.declared.faults.ControlCause.TheVariants.{SameName}
use Rattle.refusal_lines.specs.declared.refusal.Refusal.{Refusal}
use Rattle.refusal_lines.specs.declared.refusal.Refusal.TheVariants.{Control, Unbuilt}
use Rattle.run_inputs.specs.Words.{CombinedFiles}
use Rattle.run_inputs.specs.Files.{ReadsFile, control_limit}

-- a first fault of a control file as a refusal
abbrev pub refusal_of_fault : PlainFault → Refusal
refusal_of_fault fault = Control fault.cause fault.path

-- what the control file says, or its first fault
abbrev pub SaysControl : List ℕ → Result PlainControl Refusal → Type 0
SaysControl text = Renamed refusal_of_fault (IsRead text)

-- a listed file is also the control file or an output
abbrev pub is_named : CombinedFiles → PlainPlan → Bool
is_named names plan = bytes_eq plan.name names.control || bytes_eq plan.name names.out || bytes_eq plan.name names.report

abbrev pub apart_from : Option PlainPlan → Result (Unit {0}) Refusal
apart_from None = Ok tt
apart_from (Some plan) = Err (Control SameName plan.name)

-- none is, or the first that is one
abbrev pub apart : CombinedFiles → PlainControl → Result (Unit {0}) Refusal
apart names control = apart_from (find (is_named names) control.files)

-- reductions are not built yet
abbrev pub built_of : List ℕ → List PlainReduction → Result (Unit {0}) Refusal
built_of name [] = Ok tt
built_of name (first ∷ rest) = Err (Unbuilt name)

abbrev pub built : CombinedFiles → PlainControl → Result (Unit {0}) Refusal
built names control = built_of names.control control.reductions

-- what the text of a control file says; or its first fault, or why no run is made of it
abbrev pub SaysRun : CombinedFiles → List ℕ → Result PlainControl Refusal → Type 0
SaysRun names text =
    Then (SaysControl text) (λ control.
    Then (λ r. r ≡ apart names control) (λ kept_apart.
    Then (λ r. r ≡ built names control) (λ all_built r.
    r ≡ Ok control)))

-- The control of a combination: its file is there and is not too long, it says a control, no listed file is also the control file or
-- an output, and all that it asks for is built.
abbrev pub ReadsControl : CombinedFiles → (List ℕ → Option File) → Result PlainControl Refusal → Type 0
ReadsControl names files = Then (ReadsFile control_limit names.control (files names.control)) (SaysRun names)
