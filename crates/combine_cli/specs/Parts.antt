-- For private functions alone: the parts of a combination in memory, and what is known of each.
use Rattle.std.specs.Prelude.{◌≡◌, ◌*◌, ◌^◌, ℕ, List, map, Option, None, Some, Ok}
use Rattle.param_ids.specs.Tables.{ScaleMap}
use Rattle.snx_rows.specs.Named.{value_of}
use Rattle.snx_rows.specs.declared.rows.Row.{Row}
use Rattle.stated_order.specs.Lists.{AreEach}
use Rattle.control_doc.specs.Plain.{PlainControl}
use Rattle.control_doc.specs.Views.{plan_view}
use Rattle.neq_stack.specs.Neqs.{PlainNeq, IsSound, neq_view}
use Rattle.neq_stack.specs.ByName.{AreAtMost}
use Rattle.neq_stack.specs.declared.Neq.{Neq}
use Rattle.neq_stack.specs.Stacks.{IsStackOf}
use Rattle.neq_stack.specs.Systems.{NamedSystem, LiesInNeq}
use Rattle.named_tables.specs.Weighted.{scale_of}
use Rattle.file_recovery.specs.Recovery.{IsExact, IsRecovered}
use Rattle.apriori_shift.specs.Shifts.{IsShift}
use Rattle.snx_blocks.specs.Documents.{PlainDoc}
use Rattle.run_inputs.specs.Inputs.{PlainInput}
use Rattle.combine_cli.specs.Combination.{HaveCommon, Part, AreParts, StacksParts}
use Rattle.combine_cli.specs.Headline.{IsExactAt}
use Rattle.combine_cli.specs.declared.parts.FilePart.{FilePart}

abbrev pub part_view : FilePart → Part
part_view part = record { plan = plan_view part.plan.now; neq = neq_view part.neq }

-- the normal equations of parts
abbrev pub neqs_of : List Part → List PlainNeq
neqs_of parts = map (λ (part : Part). part.neq) parts

-- what is known of the normal equations that were recovered of a file
pub record IsRecoveredOf (scales : ScaleMap) (input : PlainInput) (neq : PlainNeq) : Type 0 where
  pub recovers : IsRecovered input.plan input.doc scales (Ok neq)
  pub sound : IsSound neq
  pub modest : AreAtMost (2 * 10 ^ 34) neq
  pub exponents : neq.scales ≡ map (scale_of scales) neq.names
  pub exact : (S : NamedSystem) → IsExact input.plan input.doc S → LiesInNeq (scale_of scales) neq S
  pub exact_exists : (S : NamedSystem) × IsExact input.plan input.doc S

-- The part of a file: its normal equations were recovered with the file's weight and brought to the common values, and hold each exact
-- system of the file at these.
pub record IsPartOf (scales : ScaleMap) (base : List Row) (input : PlainInput) (part : Part) : Type 0 where
  pub plan : part.plan ≡ input.plan
  pub recovered : PlainNeq
  pub recovers : IsRecovered input.plan input.doc scales (Ok recovered)
  pub shifts : IsShift (map (value_of base) recovered.names) recovered (Ok part.neq)
  pub sound : IsSound part.neq
  pub modest : AreAtMost (3 * 10 ^ 34) part.neq
  pub exponents : part.neq.scales ≡ map (scale_of scales) part.neq.names
  pub exact : (T : NamedSystem) → IsExactAt base input T → LiesInNeq (scale_of scales) part.neq T
  pub exact_exists : (T : NamedSystem) × IsExactAt base input T

-- The stack of the inputs' parts, with what is known of these.
pub record IsSummed (control : PlainControl) (inputs : List PlainInput) (free : PlainNeq) : Type 0 where
  pub base : List Row
  pub common : HaveCommon control.run.reference inputs (Ok base)
  pub parts : List Part
  pub are : AreParts control.scales base inputs (Ok parts)
  pub each : AreEach (IsPartOf control.scales base) inputs parts
  pub stacks : StacksParts parts (Ok free)
  pub whole : IsStackOf (neqs_of parts) free

-- the stack with the rows of the datum, where they were added to a copy, and else the stack itself
abbrev pub added_view : PlainNeq → Option (Neq 16) → PlainNeq
added_view free None = free
added_view free (Some neq) = neq_view neq

-- the names of the files, and what they say
abbrev pub names_in : List PlainInput → List (List ℕ)
names_in inputs = map (λ (input : PlainInput). input.plan.name) inputs

abbrev pub docs_in : List PlainInput → List PlainDoc
docs_in inputs = map (λ (input : PlainInput). input.doc) inputs
