-- A control file is read in steps, of which the first that refuses gives the answer.
use Rattle.std.proofs.Common.{◌≡◌, ℕ, List, Result, Ok, Err, Option, refl}
use Rattle.std.specs.Prelude.{IfOk, IfErr}
use Rattle.stated_order.specs.Steps.{Then}
use Rattle.stated_order.proofs.StepLaws.{then_gives, then_stops}
use Rattle.desk_io.specs.Content.{File}
use Rattle.control_doc.specs.Plain.{PlainControl}
use Rattle.refusal_lines.specs.declared.refusal.Refusal.{Refusal}
use Rattle.run_inputs.specs.Words.{CombinedFiles}
use Rattle.run_inputs.specs.Views.{IfTold}
use Rattle.run_inputs.specs.Files.{ReadsFile, control_limit}
use Rattle.run_inputs.specs.Controls.{SaysControl, SaysRun, ReadsControl, apart, built}

abbrev IsApart : CombinedFiles → PlainControl → Result (Unit {0}) Refusal → Type 0
IsApart names control r = r ≡ apart names control

abbrev IsBuilt : CombinedFiles → PlainControl → Result (Unit {0}) Refusal → Type 0
IsBuilt names control r = r ≡ built names control

abbrev After : CombinedFiles → PlainControl → Result PlainControl Refusal → Type 0
After names control = Then (IsApart names control) (λ kept_apart. Then (IsBuilt names control) (λ all_built r. r ≡ Ok control))

pub said_refused : (names : CombinedFiles) (text : List ℕ) (refusal : Refusal) → SaysControl text (Err refusal) → SaysRun names text (Err refusal)
said_refused names text refusal h = then_stops (SaysControl text) (After names) refusal h

pub apart_refused : (names : CombinedFiles) (text : List ℕ) (control : PlainControl) (refusal : Refusal) → SaysControl text (Ok control) → Err refusal ≡ apart names control → SaysRun names text (Err refusal)
apart_refused names text control refusal says h =
    then_gives (SaysControl text) (After names) control (Err refusal) says (then_stops (IsApart names control) (λ kept_apart. Then (IsBuilt names control) (λ all_built r. r ≡ Ok control)) refusal h)

pub built_refused : (names : CombinedFiles) (text : List ℕ) (control : PlainControl) (refusal : Refusal) → SaysControl text (Ok control) → Ok tt ≡ apart names control → Err refusal ≡ built names control
    → SaysRun names text (Err refusal)
built_refused names text control refusal says kept h =
    then_gives (SaysControl text) (After names) control (Err refusal) says (then_gives (IsApart names control) (λ kept_apart. Then (IsBuilt names control) (λ all_built r. r ≡ Ok control)) tt (Err refusal) kept
    (then_stops (IsBuilt names control) (λ all_built r. r ≡ Ok control) refusal h))

pub run_given : (names : CombinedFiles) (text : List ℕ) (control : PlainControl) → SaysControl text (Ok control) → Ok tt ≡ apart names control → Ok tt ≡ built names control → SaysRun names text (Ok control)
run_given names text control says kept all =
    then_gives (SaysControl text) (After names) control (Ok control) says (then_gives (IsApart names control) (λ kept_apart. Then (IsBuilt names control) (λ all_built r. r ≡ Ok control)) tt (Ok control) kept
    (then_gives (IsBuilt names control) (λ all_built r. r ≡ Ok control) tt (Ok control) all refl))

-- ---- from the file on
pub file_refused : (names : CombinedFiles) (files : List ℕ → Option File) (refusal : Refusal) → ReadsFile control_limit names.control (files names.control) (Err refusal) → ReadsControl names files (Err refusal)
file_refused names files refusal h = then_stops (ReadsFile control_limit names.control (files names.control)) (SaysRun names) refusal h

pub by_text : (names : CombinedFiles) (files : List ℕ → Option File) (text : List ℕ) (r : Result PlainControl Refusal) → ReadsFile control_limit names.control (files names.control) (Ok text)
    → SaysRun names text r → ReadsControl names files r
by_text names files text r read h = then_gives (ReadsFile control_limit names.control (files names.control)) (SaysRun names) text r read h

module _ (names : CombinedFiles) (files : List ℕ → Option File) (text : List ℕ) where
  pub given_by_text : {T : Type 0} (view : T → PlainControl) (r : Result T Refusal) → ReadsFile control_limit names.control (files names.control) (Ok text) → IfOk r (λ x. SaysRun names text (Ok (view x)))
      → IfOk r (λ x. ReadsControl names files (Ok (view x)))
  given_by_text view (Ok x) read h = by_text names files text (Ok (view x)) read h
  given_by_text view (Err refusal) read h = tt

  pub refused_by_text : {T : Type 0} (r : Result T Refusal) → ReadsFile control_limit names.control (files names.control) (Ok text) → IfErr r (IfTold (λ refusal. SaysRun names text (Err refusal)))
      → IfErr r (IfTold (λ refusal. ReadsControl names files (Err refusal)))
  refused_by_text (Ok x) read h = tt
  refused_by_text (Err refusal) read h = λ a b. by_text names files text (Err refusal) read (h a b)
