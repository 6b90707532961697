-- What is decided of a run, from what its steps answer.
use Rattle.std.proofs.Common.{◌≡◌, ℕ, Bool, List, length, map, Option, Result, Ok, Err, IfOk, IfErr, subst, arith}
use Rattle.std.specs.Prelude.{All}
use Rattle.std.proofs.Math.ListN.{get_or-map}
use Rattle.std.proofs.lemmas.List.{length-map}
use Rattle.std.proofs.lemmas.List.Sorted.{All-permutation}
use Rattle.stated_order.proofs.StepLaws.{then_gives, then_stops}
use Rattle.desk_io.specs.Content.{File, Content, KeepsAll}
use Rattle.desk_io.specs.Outputs.{NamedText}
use Rattle.control_doc.specs.Plain.{PlainPlan, PlainControl}
use Rattle.control_doc.specs.Valid.{IsPositiveAndShort}
use Rattle.refusal_lines.specs.declared.refusal.Refusal.{Refusal}
use Rattle.run_inputs.specs.Words.{PlainCommand, AreCommand}
use Rattle.run_inputs.specs.Inputs.{PlainInput, AreInNameOrder, ReadsInputs}
use Rattle.run_inputs.specs.Views.{IfTold}
use Rattle.combine_cli.specs.Combination.{Texts, IsCombined}
use Rattle.combine_cli.specs.Verdict.{Combines, HasControl, IsVerdict, writes_out, outputs_with}
use Rattle.combine_cli.specs.Headline.{IsCertifiedReport}
use Rattle.combine_cli.specs.Plan.{IsTextsOf, IsPlanned, texts_view}
use Rattle.combine_cli.specs.declared.combining.Combined.{Combined}
use Rattle.combine_cli.proofs.Verdicts.{by_texts}

-- ---- the weights of files that were read
pub weights_kept : {X : Type 0} (plan_of : X → PlainPlan) (files : List PlainPlan) (inputs : List X) → All (λ (plan : PlainPlan). IsPositiveAndShort plan.weight) files → AreInNameOrder files (map plan_of inputs)
    → All (λ input. IsPositiveAndShort (plan_of input).weight) inputs
weights_kept plan_of files inputs weights order k d lt =
    subst (λ (plan : PlainPlan). IsPositiveAndShort plan.weight) (get_or-map plan_of inputs k d)
    (All-permutation (λ (plan : PlainPlan). IsPositiveAndShort plan.weight) files (map plan_of inputs) order.same weights k (plan_of d) (omega (arith, length-map inputs plan_of)))

-- ---- the texts of files that were read
module _ (whole : Bool) (control : PlainControl) (files : List ℕ → Option File) (inputs : List PlainInput) (reads : ReadsInputs control.files files (Ok inputs)) where
  pub texts_known : (r : Result Combined Refusal) → IfOk r (λ combined. IsCombined whole control inputs (Ok (texts_view combined)))
      → IfOk r (λ combined. IsCertifiedReport control inputs combined.report.items) → IfOk r (λ combined. IsTextsOf whole control files (texts_view combined))
  texts_known (Ok combined) is certified = record { inputs = inputs; reads = reads; combined = is; certified = certified }
  texts_known (Err refusal) is certified = tt

  pub texts_refused : (r : Result Combined Refusal) → IfErr r (IfTold (λ refusal. IsCombined whole control inputs (Err refusal)))
      → IfErr r (IfTold (λ refusal. Combines whole control files (Err refusal)))
  texts_refused (Ok combined) h = tt
  texts_refused (Err refusal) h = λ a b. then_gives (ReadsInputs control.files files) (IsCombined whole control) inputs (Err refusal) reads (h a b)

pub inputs_refused : (whole : Bool) (control : PlainControl) (files : List ℕ → Option File) (refusal : Refusal) → ReadsInputs control.files files (Err refusal) → Combines whole control files (Err refusal)
inputs_refused whole control files refusal h = then_stops (ReadsInputs control.files files) (IsCombined whole control) refusal h

-- ---- after the control was read, which leaves the files as they were
module _ (words : List (List ℕ)) (old mid : Content) (command : PlainCommand) (control : PlainControl) (are : AreCommand words command)
    (has : HasControl command old.files (Ok control)) (keeps : KeepsAll old mid) where
  pub planned_of : (texts : Texts) (outputs : List NamedText) → IsTextsOf (writes_out command) control mid.files texts → outputs ≡ outputs_with command texts → IsPlanned words old.files outputs
  planned_of texts outputs h is = record {
    command = command;
    are = are;
    control = control;
    has = has;
    texts = texts;
    are_texts = subst (λ files. IsTextsOf (writes_out command) control files texts) keeps.files h;
    outputs_are = is;
  }

  pub combining_refused : (refusal : Refusal) → Combines (writes_out command) control mid.files (Err refusal) → IsVerdict words old.files (Err refusal)
  combining_refused refusal h = by_texts words old.files command are control has refusal (subst (λ files. Combines (writes_out command) control files (Err refusal)) keeps.files h)
