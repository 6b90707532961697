-- What a run is to do: a relation of its words, the files by name and its outcome, and of nothing else. It is said as steps in
-- their order: the words, the control file, the files in the order of their names, and their combination. The first that refuses
-- gives the outcome.
use Rattle.std.specs.Prelude.{◌≡◌, ◌∷◌, ℕ, Bool, true, false, List, [], Option, Result, Ok}
use Rattle.stated_order.specs.Steps.{Then}
use Rattle.desk_io.specs.Content.{File}
use Rattle.desk_io.specs.Outputs.{NamedText}
use Rattle.control_doc.specs.Plain.{PlainControl}
use Rattle.control_doc.specs.Single.{alone_control}
use Rattle.refusal_lines.specs.declared.refusal.Refusal.{Refusal}
use Rattle.run_inputs.specs.Words.{PlainCommand, Solve, Combine, ReadsWords}
use Rattle.run_inputs.specs.Controls.{ReadsControl}
use Rattle.run_inputs.specs.Inputs.{ReadsInputs}
use Rattle.combine_cli.specs.Combination.{Texts, IsCombined}

-- The outcome of a run: the outputs that it writes, in their order, or why it refuses.
abbrev pub Outcome : Type 0
Outcome = Result (List NamedText) Refusal

-- what a command does to the files of a control: it reads them and combines them, with the combined file or without it
abbrev pub Combines : Bool → PlainControl → (List ℕ → Option File) → Result Texts Refusal → Type 0
Combines whole control files = Then (ReadsInputs control.files files) (IsCombined whole control)

-- `combine` alone writes the combined file
abbrev pub writes_out : PlainCommand → Bool
writes_out (Solve names) = false
writes_out (Combine names) = true

-- the control of a command: `solve` is the combination of a single file
abbrev pub HasControl : PlainCommand → (List ℕ → Option File) → Result PlainControl Refusal → Type 0
HasControl (Solve names) files result = result ≡ Ok (alone_control names.from)
HasControl (Combine names) files result = ReadsControl names files result

-- the outputs of a command: `solve` writes the report, `combine` the combined file and then the report
abbrev pub outputs_with : PlainCommand → Texts → List NamedText
outputs_with (Solve names) texts = record { name = names.to; text = texts.report } ∷ []
outputs_with (Combine names) texts = record { name = names.out; text = texts.out } ∷ record { name = names.report; text = texts.report } ∷ []

abbrev pub IsVerdict : List (List ℕ) → (List ℕ → Option File) → Outcome → Type 0
IsVerdict words files =
    Then (ReadsWords words) (λ command.
    Then (HasControl command files) (λ control.
    Then (Combines (writes_out command) control files) (λ texts r.
    r ≡ Ok (outputs_with command texts))))
