-- The words of a command, those of the command line after the program's name.
use Rattle.std.specs.Prelude.{◌≡◌, ◌≢◌, ◌∷◌, ℕ, List, [], Result, Ok, Err, Contains, codes}
use Rattle.refusal_lines.specs.declared.refusal.Refusal.{Refusal}
use Rattle.refusal_lines.specs.declared.refusal.Refusal.TheVariants.{Words}

-- the files that `solve` names: the one that is read, and the one that is written
pub record SolvedFiles : Type 0 where
  pub from : List ℕ
  pub to : List ℕ

-- the files that `combine` names: the control file, which is read, and the two that are written
pub record CombinedFiles : Type 0 where
  pub control : List ℕ
  pub out : List ℕ
  pub report : List ℕ

pub data PlainCommand : Type 0 where
  Solve : SolvedFiles → PlainCommand
  Combine : CombinedFiles → PlainCommand

-- the words are `solve` and two different names
pub record AreSolve (words : List (List ℕ)) (names : SolvedFiles) : Type 0 where
  pub words_are : words ≡ codes "solve" ∷ names.from ∷ names.to ∷ []
  pub differ : names.from ≢ names.to

-- the words are `combine` and three different names
pub record AreCombine (words : List (List ℕ)) (names : CombinedFiles) : Type 0 where
  pub words_are : words ≡ codes "combine" ∷ names.control ∷ names.out ∷ names.report ∷ []
  pub control_and_out : names.control ≢ names.out
  pub control_and_report : names.control ≢ names.report
  pub out_and_report : names.out ≢ names.report

abbrev pub AreCommand : List (List ℕ) → PlainCommand → Type 0
AreCommand words (Solve names) = AreSolve words names
AreCommand words (Combine names) = AreCombine words names

-- a command, or words that are none
abbrev pub ReadsWords : List (List ℕ) → Result PlainCommand Refusal → Type 0
ReadsWords words (Ok command) = AreCommand words command
ReadsWords words (Err refusal) = ((command : PlainCommand) → ¬ (AreCommand words command)) × (refusal ≡ Words)

-- the files that a command writes
abbrev pub outputs_of : PlainCommand → List (List ℕ)
outputs_of (Solve names) = names.to ∷ []
outputs_of (Combine names) = names.out ∷ names.report ∷ []

-- the words name this file as one that is written
abbrev pub NamesOutput : List (List ℕ) → List ℕ → Type 0
NamesOutput words name = (command : PlainCommand) × AreCommand words command × Contains (outputs_of command) name
