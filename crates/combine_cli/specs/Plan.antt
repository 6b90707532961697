-- For private functions alone: what a run decides before it writes or says anything.
use Rattle.std.specs.Prelude.{◌≡◌, ℕ, Bool, List, Option, Ok}
use Rattle.desk_io.specs.Content.{File}
use Rattle.desk_io.specs.Outputs.{NamedText}
use Rattle.control_doc.specs.Plain.{PlainControl}
use Rattle.run_inputs.specs.Words.{PlainCommand, AreCommand}
use Rattle.run_inputs.specs.Inputs.{PlainInput, ReadsInputs}
use Rattle.combine_cli.specs.Combination.{Texts, IsCombined}
use Rattle.combine_cli.specs.Verdict.{HasControl, writes_out, outputs_with}
use Rattle.combine_cli.specs.Headline.{IsCertifiedReport}
use Rattle.combine_cli.specs.declared.combining.Combined.{Combined}

-- the texts of a combination in memory
abbrev pub texts_view : Combined → Texts
texts_view combined = record { out = combined.out.items; report = combined.report.items }

-- The files of the control were read, they give these texts, and the report is certified.
pub record IsTextsOf (whole : Bool) (control : PlainControl) (files : List ℕ → Option File) (texts : Texts) : Type 0 where
  pub inputs : List PlainInput
  pub reads : ReadsInputs control.files files (Ok inputs)
  pub combined : IsCombined whole control inputs (Ok texts)
  pub certified : IsCertifiedReport control inputs texts.report

-- The words are a command, it has a control, and the outputs are those with the control's texts.
pub record IsPlanned (words : List (List ℕ)) (files : List ℕ → Option File) (outputs : List NamedText) : Type 0 where
  pub command : PlainCommand
  pub are : AreCommand words command
  pub control : PlainControl
  pub has : HasControl command files (Ok control)
  pub texts : Texts
  pub are_texts : IsTextsOf (writes_out command) control files texts
  pub outputs_are : outputs ≡ outputs_with command texts
