-- A combination, by how far its steps came.
use Rattle.std.proofs.Common.{◌≡◌, Bool, List, Result, Ok, Err}
use Rattle.stated_order.specs.Steps.{Then}
use Rattle.stated_order.proofs.StepLaws.{then_gives, then_stops}
use Rattle.snx_rows.specs.declared.rows.Row.{Row}
use Rattle.control_doc.specs.Plain.{PlainControl}
use Rattle.neq_stack.specs.Neqs.{PlainNeq}
use Rattle.stack_rules.specs.Rules.{Numbers}
use Rattle.refusal_lines.specs.declared.refusal.Refusal.{Refusal}
use Rattle.run_inputs.specs.Inputs.{PlainInput}
use Rattle.combine_cli.specs.Combination.{HaveCommon, Part, AreParts, StacksParts, AddsDatum, Solves, Texts, AreTexts, IsCombined}
use Rattle.combine_cli.specs.Parts.{IsSummed}

module _ (whole : Bool) (control : PlainControl) (inputs : List PlainInput) where
  -- what is to do after each step
  abbrev AfterDatum : PlainNeq → PlainNeq → Result Texts Refusal → Type 0
  AfterDatum free neq = Then (Solves neq) (AreTexts whole control inputs free neq)

  abbrev AfterStack : PlainNeq → Result Texts Refusal → Type 0
  AfterStack free = Then (AddsDatum control.datum free) (AfterDatum free)

  abbrev AfterParts : List Part → Result Texts Refusal → Type 0
  AfterParts parts = Then (StacksParts parts) AfterStack

  abbrev AfterCommon : List Row → Result Texts Refusal → Type 0
  AfterCommon base = Then (AreParts control.scales base inputs) AfterParts

  pub no_common : (refusal : Refusal) → HaveCommon control.run.reference inputs (Err refusal) → IsCombined whole control inputs (Err refusal)
  no_common refusal h = then_stops (HaveCommon control.run.reference inputs) AfterCommon refusal h

  module _ (base : List Row) (common : HaveCommon control.run.reference inputs (Ok base)) where
    after_common : (r : Result Texts Refusal) → AfterCommon base r → IsCombined whole control inputs r
    after_common r h = then_gives (HaveCommon control.run.reference inputs) AfterCommon base r common h

    pub no_parts : (refusal : Refusal) → AreParts control.scales base inputs (Err refusal) → IsCombined whole control inputs (Err refusal)
    no_parts refusal h = after_common (Err refusal) (then_stops (AreParts control.scales base inputs) AfterParts refusal h)

    module _ (parts : List Part) (are : AreParts control.scales base inputs (Ok parts)) where
      after_parts : (r : Result Texts Refusal) → AfterParts parts r → IsCombined whole control inputs r
      after_parts r h = after_common r (then_gives (AreParts control.scales base inputs) AfterParts parts r are h)

      pub no_stack : (refusal : Refusal) → StacksParts parts (Err refusal) → IsCombined whole control inputs (Err refusal)
      no_stack refusal h = after_parts (Err refusal) (then_stops (StacksParts parts) AfterStack refusal h)

  module _ (free : PlainNeq) (summed : IsSummed control inputs free) where
    after_stack : (r : Result Texts Refusal) → AfterStack free r → IsCombined whole control inputs r
    after_stack r h = after_parts summed.base summed.common summed.parts summed.are r (then_gives (StacksParts summed.parts) AfterStack free r summed.stacks h)

    pub no_datum : (refusal : Refusal) → AddsDatum control.datum free (Err refusal) → IsCombined whole control inputs (Err refusal)
    no_datum refusal h = after_stack (Err refusal) (then_stops (AddsDatum control.datum free) (AfterDatum free) refusal h)

    module _ (neq : PlainNeq) (added : AddsDatum control.datum free (Ok neq)) where
      after_datum : (r : Result Texts Refusal) → AfterDatum free neq r → IsCombined whole control inputs r
      after_datum r h = after_stack r (then_gives (AddsDatum control.datum free) (AfterDatum free) neq r added h)

      pub not_solved : (refusal : Refusal) → Solves neq (Err refusal) → IsCombined whole control inputs (Err refusal)
      not_solved refusal h = after_datum (Err refusal) (then_stops (Solves neq) (AreTexts whole control inputs free neq) refusal h)

      pub combined_by : (numbers : Numbers) (texts : Texts) → Solves neq (Ok numbers) → AreTexts whole control inputs free neq numbers (Ok texts) → IsCombined whole control inputs (Ok texts)
      combined_by numbers texts solved are = after_datum (Ok texts) (then_gives (Solves neq) (AreTexts whole control inputs free neq) numbers (Ok texts) solved are)
