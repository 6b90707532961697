-- What a command reads is one thing.
use Rattle.std.specs.Prelude.{ℕ, List, Option}
use Rattle.stated_order.specs.Steps.{IsOne}
use Rattle.desk_io.specs.Content.{File}
use Rattle.control_doc.specs.Plain.{PlainPlan}
use Rattle.run_inputs.specs.Words.{CombinedFiles, ReadsWords}
use Rattle.run_inputs.specs.Controls.{ReadsControl}
use Rattle.run_inputs.specs.Inputs.{ReadsInputs}

-- words are one command at most, and never both a command and none
abbrev pub OneCommand : Type 0
OneCommand = (words : List (List ℕ)) → IsOne (ReadsWords words)

-- the files give one control at most, or refuse it for one cause, and never both
abbrev pub OneRun : Type 0
OneRun = (names : CombinedFiles) (files : List ℕ → Option File) → IsOne (ReadsControl names files)

-- the same of what the files of a control say
abbrev pub OneReading : Type 0
OneReading = (plans : List PlainPlan) (files : List ℕ → Option File) → IsOne (ReadsInputs plans files)
