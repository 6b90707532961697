-- What does not change a combination: the order of its files, their groups, and how many work.
use Rattle.std.specs.Prelude.{◌≡◌, ℕ, Bool, List, [], map, Option, Ok}
use Rattle.std.specs.List.Sorted.{IsPermutation}
use Rattle.desk_io.specs.Content.{File}
use Rattle.control_doc.specs.Plain.{PlainPlan, PlainControl}
use Rattle.run_inputs.specs.Words.{CombinedFiles}
use Rattle.run_inputs.specs.Controls.{apart, built}
use Rattle.combine_cli.specs.Combination.{Texts}
use Rattle.combine_cli.specs.Verdict.{Combines}

-- the same file in no group
abbrev pub ungrouped : PlainPlan → PlainPlan
ungrouped plan = record plan { group = [] }

-- two controls say the same but for the order of their files, the files' groups and the number of workers
pub record AreAlike (one other : PlainControl) : Type 0 where
  pub files : IsPermutation (map ungrouped one.files) (map ungrouped other.files)
  pub header : one.header ≡ other.header
  pub reference : one.run.reference ≡ other.run.reference
  pub datum : one.datum ≡ other.datum
  pub reductions : one.reductions ≡ other.reductions
  pub scales : one.scales ≡ other.scales

-- of two alike controls both are kept apart from the files of the command, and are built, or neither
abbrev pub AlikeAreAdmitted : Type 0
AlikeAreAdmitted = (names : CombinedFiles) (one other : PlainControl) → AreAlike one other
    → apart names one ≡ Ok tt → built names one ≡ Ok tt → (apart names other ≡ Ok tt) × (built names other ≡ Ok tt)

-- where one of them gives texts, the other gives the same
abbrev pub AlikeCombine : Type 0
AlikeCombine = (whole : Bool) (files : List ℕ → Option File) (one other : PlainControl) (texts : Texts) → AreAlike one other
    → Combines whole one files (Ok texts) → Combines whole other files (Ok texts)
