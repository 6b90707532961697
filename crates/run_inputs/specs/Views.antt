-- What the code holds, without where it lies in memory; and what is known of its answers.
use Rattle.std.specs.Prelude.{◌≡◌, ◌≢◌, ◌≤◌, ℕ, Result, Ok, Err}
use Rattle.desk_io.specs.Desk.{Rose}
use Rattle.snx_blocks.specs.Views.{doc_view}
use Rattle.control_doc.specs.Views.{plan_view}
use Rattle.refusal_lines.specs.Refusals.{status_of}
use Rattle.refusal_lines.specs.declared.refusal.Refusal.{Refusal}
use Rattle.run_inputs.specs.Words.{PlainCommand, Solve, Combine, SolvedFiles, CombinedFiles}
use Rattle.run_inputs.specs.Inputs.{PlainInput}
use Rattle.run_inputs.specs.declared.words.SolveNames.{SolveNames}
use Rattle.run_inputs.specs.declared.words.CombineNames.{CombineNames}
use Rattle.run_inputs.specs.declared.words.Command.{Command}
use Rattle.run_inputs.specs.declared.words.Command.TheVariants as commands
use Rattle.run_inputs.specs.declared.inputs.Input.{Input}

abbrev pub solved_files : SolveNames → SolvedFiles
solved_files names = record { from = names.from.now; to = names.to.now }

abbrev pub combined_files : CombineNames → CombinedFiles
combined_files names = record { control = names.control.now; out = names.out.now; report = names.report.now }

abbrev pub command_view : Command → PlainCommand
command_view (commands.Solve names) = Solve (solved_files names)
command_view (commands.Combine names) = Combine (combined_files names)

abbrev pub input_view : Input → PlainInput
input_view input = record { plan = plan_view input.plan.now; size = input.size; doc = doc_view input.doc }

-- the status of an answer: 0, or that of its refusal
abbrev pub status_in : {T : Type 0} → Result T Refusal → ℕ
status_in (Ok x) = 0
status_in (Err refusal) = status_of refusal

-- P holds of a refusal that tells neither of want of memory nor of a fault, which come in the place of any other
abbrev pub IfTold : (Refusal → Type 0) → Refusal → Type 0
IfTold P refusal = status_of refusal ≢ 4 → status_of refusal ≢ 5 → P refusal

-- The count of faults never falls. It rose before status 5, and before each status but 4 and 5 it is as it was.
pub record HasStatusCause (before now status : ℕ) : Type 0 where
  pub later : before ≤ now
  pub fault : status ≡ 5 → Rose before now
  pub unchanged : status ≢ 4 → status ≢ 5 → now ≡ before
