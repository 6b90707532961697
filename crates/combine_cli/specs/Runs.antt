-- What a run leaves.
use Rattle.std.specs.Prelude.{◌≡◌, ◌⊎◌, ◌++◌, ℕ, List, Option, Result, Ok, Err, IsErrOf}
use Rattle.std.specs.List.{Any}
use Rattle.desk_io.specs.Content.{File, Content, KeepsAll, IsFront}
use Rattle.desk_io.specs.Desk.{Says}
use Rattle.desk_io.specs.Outputs.{StandsWhole, StandsCut}
use Rattle.desk_io.specs.declared.desk.DeskError.{DeskError}
use Rattle.desk_io.specs.declared.desk.DeskError.TheVariants as desk
use Rattle.refusal_lines.specs.Refusals.{status_of, line_of}
use Rattle.combine_cli.specs.Verdict.{Outcome, IsVerdict, HasControl}
use Rattle.refusal_lines.specs.declared.refusal.Refusal.TheVariants.{Memory, Desk}
use Rattle.control_doc.specs.Plain.{PlainPlan, PlainControl}
use Rattle.run_inputs.specs.Words.{PlainCommand, Solve, Combine, AreCommand}

-- the files that a command names and reads: of `combine` the control file alone
abbrev pub named_input : PlainCommand → List ℕ
named_input (Solve names) = names.from
named_input (Combine names) = names.control

-- A command of these words reads the file of this name: it is the one that the words name, or one that its control lists.
pub record ReadsName (words : List (List ℕ)) (files : List ℕ → Option File) (name : List ℕ) : Type 0 where
  pub command : PlainCommand
  pub are : AreCommand words command
  pub reads : (name ≡ named_input command)
      ⊎ ((control : PlainControl) × HasControl command files (Ok control) × Any (λ (plan : PlainPlan). plan.name ≡ name) control.files)

-- The words and the files have this verdict, and P holds of it.
pub record HasVerdict (words : List (List ℕ)) (files : List ℕ → Option File) (P : Outcome → Type 0) : Type 0 where
  pub outcome : Outcome
  pub verdict : IsVerdict words files outcome
  pub holds : P outcome

-- Files may have been read, which creates and says nothing, and then P.
pub record AfterReading (P : Content → Content → Type 0) (old new : Content) : Type 0 where
  pub read : Content
  pub keeps : KeepsAll old read
  pub onward : P read new

-- The line was said, and no file was created.
pub record Refused (line : List ℕ) (old new : Content) : Type 0 where
  pub files : new.files ≡ old.files
  pub said : new.said ≡ old.said ++ line

-- what a run of this status leaves, by its verdict: all outputs whole and nothing else, or the line of the refusal
abbrev pub Leaves : ℕ → Outcome → Content → Content → Type 0
Leaves status (Ok outputs) old new = (status ≡ 0) × AfterReading (StandsWhole outputs) old new
Leaves status (Err refusal) old new = (status ≡ status_of refusal) × Refused (line_of refusal) old new

-- ---- runs that were cut short

-- A prefix of the bytes was said, and no file was created.
pub record SaysPart (bytes : List ℕ) (old new : Content) : Type 0 where
  pub files : new.files ≡ old.files
  pub said : (part : List ℕ) × IsFront part bytes × (new.said ≡ old.said ++ part)

-- What stands where a run stopped, by its verdict: nothing was created yet, or one of the outputs is cut, those before it are
-- whole and those after it as before; or a prefix of the refusal's line.
abbrev pub StoppedAt : Outcome → Content → Content → Type 0
StoppedAt (Ok outputs) old new = AfterReading (λ read new. (new ≡ read) ⊎ StandsCut outputs read new) old new
StoppedAt (Err refusal) old new = SaysPart (line_of refusal) old new

-- The run stopped so, and then Q.
pub record StoppedThen (outcome : Outcome) (Q : Content → Content → Type 0) (old new : Content) : Type 0 where
  pub at : Content
  pub stopped : StoppedAt outcome old at
  pub onward : Q at new

-- The line of want of memory was said whole, or saying it was refused for want of memory too; then a prefix of it was said.
pub record SaysMemory (old new : Content) : Type 0 where
  pub answer : Result (Unit {0}) DeskError
  pub no_fault : ¬ (IsErrOf answer desk.Fault)
  pub says : Says (line_of Memory) old new answer

-- A prefix of the line of want of memory may have been said, and then a prefix of a fault's line.
pub record SaysFault (old new : Content) : Type 0 where
  pub between : Content
  pub memory : SaysPart (line_of Memory) old between
  pub fault : SaysPart (line_of Desk) between new

-- what a run of status 4 or 5 says after it stopped
abbrev pub Excuses : ℕ → Content → Content → Type 0
Excuses status old new = ((status ≡ 4) × SaysMemory old new) ⊎ ((status ≡ 5) × SaysFault old new)
