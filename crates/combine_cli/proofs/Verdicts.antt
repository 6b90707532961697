-- A run has one verdict, and what gives it.
use Rattle.std.proofs.Common.{◌≡◌, ◌≢◌, ◌∙◌, ◌∷◌, ℕ, Bool, false, List, [], Option, None, Ok, Err, codes, refl, sym, subst}
use Rattle.std.proofs.lemmas.List.Sorted.{IsPermutation-refl}
use Rattle.stated_order.specs.Steps.{IsOne, Then}
use Rattle.stated_order.proofs.StepLaws.{then_is_one, then_gives, then_stops}
use Rattle.desk_io.specs.Content.{File}
use Rattle.desk_io.specs.Outputs.{NamedText}
use Rattle.control_doc.specs.Plain.{PlainControl}
use Rattle.control_doc.specs.Single.{alone_plan, alone_control}
use Rattle.refusal_lines.specs.declared.refusal.Refusal.{Refusal}
use Rattle.run_inputs.specs.Words.{PlainCommand, Solve, Combine, AreCommand, ReadsWords}
use Rattle.refusal_lines.specs.declared.refusal.Refusal.TheVariants.{Words, NoFile}
use Rattle.run_inputs.specs.Files.{ReadsFile}
use Rattle.run_inputs.specs.Inputs.{IsInput, ReadsInputs, limit_after}
use Rattle.combine_cli.specs.Combination.{Texts, IsCombined}
use Rattle.combine_cli.specs.Verdict.{Outcome, Combines, HasControl, IsVerdict, writes_out, outputs_with}
use Rattle.combine_cli.specs.Headline.{AreWritten, IsCertifiedRun}
use Rattle.combine_cli.specs.Plan.{IsTextsOf, IsPlanned}
use Rattle.run_inputs.proofs.Alone.{words_are_one, control_is_one, inputs_are_one}
use Rattle.combine_cli.proofs.OneCombination.{combined_is_one}

-- ---- each step has one result
pub has_control_is_one : (command : PlainCommand) (files : List ℕ → Option File) → IsOne (HasControl command files)
has_control_is_one (Solve names) files = λ r s a b. a ∙ sym b
has_control_is_one (Combine names) files = control_is_one names files

combines_is_one : (whole : Bool) (control : PlainControl) (files : List ℕ → Option File) → IsOne (Combines whole control files)
combines_is_one whole control files =
    then_is_one (ReadsInputs control.files files) (IsCombined whole control) (inputs_are_one control.files files) (λ inputs read. combined_is_one whole control inputs)

-- so the words and the files have one verdict
pub one_verdict : (words : List (List ℕ)) (files : List ℕ → Option File) → IsOne (IsVerdict words files)
one_verdict words files =
    then_is_one (ReadsWords words) _ (words_are_one words) (λ command are.
    then_is_one (HasControl command files) _ (has_control_is_one command files) (λ control has.
    then_is_one (Combines (writes_out command) control files) _ (combines_is_one (writes_out command) control files) (λ texts combined r s a b. a ∙ sym b)))

-- ---- the verdict, by the step that gives it
abbrev pub OfControl : (List ℕ → Option File) → PlainCommand → PlainControl → Outcome → Type 0
OfControl files command control = Then (Combines (writes_out command) control files) (λ texts r. r ≡ Ok (outputs_with command texts))

abbrev pub OfCommand : (List ℕ → Option File) → PlainCommand → Outcome → Type 0
OfCommand files command = Then (HasControl command files) (OfControl files command)

module _ (words : List (List ℕ)) (files : List ℕ → Option File) where
  pub by_words : (refusal : Refusal) → ReadsWords words (Err refusal) → IsVerdict words files (Err refusal)
  by_words refusal h = then_stops (ReadsWords words) (OfCommand files) refusal h

  module _ (command : PlainCommand) (are : AreCommand words command) where
    pub by_control : (refusal : Refusal) → HasControl command files (Err refusal) → IsVerdict words files (Err refusal)
    by_control refusal h = then_gives (ReadsWords words) (OfCommand files) command (Err refusal) are (then_stops (HasControl command files) (OfControl files command) refusal h)

    module _ (control : PlainControl) (has : HasControl command files (Ok control)) where
      onward : (outcome : Outcome) → OfControl files command control outcome → IsVerdict words files outcome
      onward outcome h = then_gives (ReadsWords words) (OfCommand files) command outcome are (then_gives (HasControl command files) (OfControl files command) control outcome has h)

      pub by_texts : (refusal : Refusal) → Combines (writes_out command) control files (Err refusal) → IsVerdict words files (Err refusal)
      by_texts refusal h = onward (Err refusal) (then_stops (Combines (writes_out command) control files) _ refusal h)

      pub by_outputs : (texts : Texts) → Combines (writes_out command) control files (Ok texts) → IsVerdict words files (Ok (outputs_with command texts))
      by_outputs texts h = onward (Ok (outputs_with command texts)) (then_gives (Combines (writes_out command) control files) _ texts (Ok (outputs_with command texts)) h refl)

-- ---- what is planned is the verdict
texts_combine : (whole : Bool) (control : PlainControl) (files : List ℕ → Option File) (texts : Texts) → IsTextsOf whole control files texts → Combines whole control files (Ok texts)
texts_combine whole control files texts are = then_gives (ReadsInputs control.files files) (IsCombined whole control) are.inputs (Ok texts) are.reads are.combined

pub planned_verdict : (words : List (List ℕ)) (files : List ℕ → Option File) (outputs : List NamedText) → IsPlanned words files outputs → IsVerdict words files (Ok outputs)
planned_verdict words files outputs p =
    subst (λ (os : List NamedText). IsVerdict words files (Ok os)) (sym p.outputs_are)
    (by_outputs words files p.command p.are p.control p.has p.texts (texts_combine (writes_out p.command) p.control files p.texts p.are_texts))

pub planned_run : (words : List (List ℕ)) (old new : List ℕ → Option File) (outputs : List NamedText) → IsPlanned words old outputs → AreWritten outputs new → IsCertifiedRun words old new
planned_run words old new outputs p written = record {
  command = p.command;
  are = p.are;
  control = p.control;
  has = p.has;
  inputs = p.are_texts.inputs;
  reads = p.are_texts.reads;
  texts = p.texts;
  certified = p.are_texts.certified;
  written = subst (λ (os : List NamedText). AreWritten os new) p.outputs_are written;
}

-- ---- some words
no_command : (command : PlainCommand) → ¬ (AreCommand [] command)
no_command (Solve names) are = let e = are.words_are in cc
no_command (Combine names) are = let e = are.words_are in cc

pub no_words : (files : List ℕ → Option File) (outcome : Outcome) → IsVerdict [] files outcome → outcome ≡ Err Words
no_words files outcome h = one_verdict [] files outcome (Err Words) h (by_words [] files Words (no_command, refl))

-- `solve` of a file that isn't there
module _ (files : List ℕ → Option File) (from to : List ℕ) (differ : from ≢ to) (none : files from ≡ None) where
  first_input : IsInput files [] (alone_plan from) (Err (NoFile from))
  first_input = then_stops (ReadsFile (limit_after []) from (files from)) _ (NoFile from) (subst (λ (file : Option File). ReadsFile (limit_after []) from file (Err (NoFile from))) (sym none) refl)

  no_inputs : ReadsInputs (alone_control from).files files (Err (NoFile from))
  no_inputs = (alone_plan from ∷ [], record { same = IsPermutation-refl (alone_plan from ∷ []); ascends = tt }, then_stops (IsInput files [] (alone_plan from)) _ (NoFile from) first_input)

  pub no_file : IsVerdict (codes "solve" ∷ from ∷ to ∷ []) files (Err (NoFile from))
  no_file =
      by_texts (codes "solve" ∷ from ∷ to ∷ []) files (Solve (record { from = from; to = to })) (record { words_are = refl; differ = differ }) (alone_control from) refl (NoFile from)
      (then_stops (ReadsInputs (alone_control from).files files) (IsCombined false (alone_control from)) (NoFile from) no_inputs)
