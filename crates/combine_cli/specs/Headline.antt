-- What a run that wrote its report promises.
use Rattle.std.specs.Prelude.{◌≡◌, ℕ, true, List, ◌∷◌, [], map, length, Some, None, Option, Ok}
use Rattle.stated_order.specs.Lists.{AreEach}
use Rattle.desk_io.specs.Content.{File}
use Rattle.desk_io.specs.Outputs.{NamedText}
use Rattle.sys_model.specs.Scaling.{LiesInStack}
use Rattle.bounds_report.specs.Bounds.{AreCertified}
use Rattle.bounds_report.specs.Printing.{numbers_at}
use Rattle.param_ids.specs.Plain.{PlainId}
use Rattle.snx_rows.specs.Named.{value_of}
use Rattle.snx_rows.specs.declared.rows.Row.{Row}
use Rattle.control_doc.specs.Plain.{PlainDatum, PlainControl}
use Rattle.neq_stack.specs.Neqs.{PlainNeq}
use Rattle.neq_stack.specs.Stacks.{IsStackOf}
use Rattle.neq_stack.specs.Systems.{NamedSystem, IsSumOf, over}
use Rattle.file_recovery.specs.Recovery.{IsExact, IsKnownBy}
use Rattle.apriori_shift.specs.Moves.{Moves}
use Rattle.datum_rows.specs.Exact.{IsDatumSystem}
use Rattle.stack_rules.specs.Rules.{Numbers, IsAnswer}
use Rattle.bounds_text.specs.Report.{numbers_report}
use Rattle.run_inputs.specs.Words.{PlainCommand, AreCommand}
use Rattle.run_inputs.specs.Inputs.{PlainInput, ReadsInputs}
use Rattle.combine_cli.specs.Combination.{HaveCommon, Part, AreParts, AddsDatum, Texts, stack_in}
use Rattle.combine_cli.specs.Verdict.{HasControl, outputs_with}

-- An exact system of a file at the common a priori values: one of its exact systems, taken from the values of its own rows to those of the
-- rows that count.
pub record IsExactAt (base : List Row) (input : PlainInput) (T : NamedSystem) : Type 0 where
  pub names : List PlainId
  pub apriori : List Row
  pub known : IsKnownBy input.plan input.doc names apriori
  pub S : NamedSystem
  pub exact : IsExact input.plan input.doc S
  pub moves : Moves names (value_of apriori) (value_of base) S T

-- The exact systems of the inputs: for each file one at the common values, and their sum by name.
pub record IsExactOf (reference : List ℕ) (inputs : List PlainInput) (S : NamedSystem) : Type 0 where
  pub base : List Row
  pub common : HaveCommon reference inputs (Ok base)
  pub systems : List NamedSystem
  pub each : AreEach (IsExactAt base) inputs systems
  pub sum : IsSumOf systems S

-- T is S with the exact system of the datum, whose sites stand among the names and values of the free stack, if there is a datum
abbrev pub IsWith : Option PlainDatum → PlainNeq → NamedSystem → NamedSystem → Type 0
IsWith None free S T = T ≡ S
IsWith (Some datum) free S T = (D : NamedSystem) × IsDatumSystem datum free D × IsSumOf (S ∷ D ∷ []) T

-- the exact systems of the inputs with the datum's
pub record IsExactWith (control : PlainControl) (inputs : List PlainInput) (free : PlainNeq) (T : NamedSystem) : Type 0 where
  pub S : NamedSystem
  pub exact : IsExactOf control.run.reference inputs S
  pub datum : IsWith control.datum free S T

-- each system in the stack of these normal equations has a solution, all its solutions are equal, each lies between the printed
-- bounds, and the printed estimates leave at most the printed residual in every row
abbrev pub AreCertifiedOf : PlainNeq → Numbers → Type 0
AreCertifiedOf neq numbers = AreCertified (length neq.names) (stack_in neq).table (stack_in neq).scales (stack_in neq).apriori (numbers_at numbers.rows)

-- The report tells numbers of the stack of the inputs' normal equations at the common values, whatever their groups, with the rows of the
-- datum, and these are certified: the inputs have an exact system with the datum's; over the names of the stack each one lies in its
-- intervals; and each system in these has its one solution between the printed bounds.
pub record IsCertifiedReport (control : PlainControl) (inputs : List PlainInput) (report : List ℕ) : Type 0 where
  pub base : List Row
  pub parts : List Part
  pub free : PlainNeq
  pub neq : PlainNeq
  pub numbers : Numbers
  pub common : HaveCommon control.run.reference inputs (Ok base)
  pub recovers : AreParts control.scales base inputs (Ok parts)
  pub stack : IsStackOf (map (λ (part : Part). part.neq) parts) free
  pub datum : AddsDatum control.datum free (Ok neq)
  pub answers : IsAnswer (stack_in neq) (Ok numbers)
  pub tells : report ≡ numbers_report neq.names neq.units numbers
  pub exact_exists : (T : NamedSystem) × IsExactWith control inputs free T
  pub exact : (T : NamedSystem) → IsExactWith control inputs free T → LiesInStack (length neq.names) (stack_in neq).table (stack_in neq).scales (over neq.names T)
  pub certified : AreCertifiedOf neq numbers

-- The outputs' files hold their texts, finished.
abbrev pub AreWritten : List NamedText → (List ℕ → Option File) → Type 0
AreWritten [] files = Unit {0}
AreWritten (output ∷ later) files = (files output.name ≡ Some (record { bytes = output.text; finished = true })) × AreWritten later files

-- The words are a command, its files were read as its control says, its outputs are written, and the report is certified.
pub record IsCertifiedRun (words : List (List ℕ)) (old new : List ℕ → Option File) : Type 0 where
  pub command : PlainCommand
  pub are : AreCommand words command
  pub control : PlainControl
  pub has : HasControl command old (Ok control)
  pub inputs : List PlainInput
  pub reads : ReadsInputs control.files old (Ok inputs)
  pub texts : Texts
  pub certified : IsCertifiedReport control inputs texts.report
  pub written : AreWritten (outputs_with command texts) new
