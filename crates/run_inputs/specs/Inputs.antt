-- The SINEX files of a run: read one after another in the order of their names, each to its end, and each as a document.
use Rattle.std.specs.Prelude.{◌≡◌, ◌≢◌, ◌-◌, ℕ, min, List, [], length, map, sum, Option, Result, Ok}
use Rattle.std.specs.List.{AllPairs}
use Rattle.std.specs.List.Sorted.{IsPermutation}
use Rattle.std.specs.Ordering.{nat_cmp}
use Rattle.std.specs.Cmp.Lexicographic.{slice_cmp}
use Rattle.std.specs.declared.cmp.Ordering.TheVariants.{Less}
use Rattle.stated_order.specs.Lists.{Ascends}
use Rattle.stated_order.specs.Steps.{Then, InTurn}
use Rattle.desk_io.specs.Content.{File}
use Rattle.snx_blocks.specs.Documents.{PlainDoc}
use Rattle.control_doc.specs.Plain.{PlainPlan}
use Rattle.refusal_lines.specs.declared.refusal.Refusal.{Refusal}
use Rattle.run_inputs.specs.Files.{ReadsFile, ReadsText, file_limit, total_limit}

-- a file that was read: what the control says of it, how many bytes it has, and what it says
pub record PlainInput : Type 0 where
  pub plan : PlainPlan
  pub size : ℕ
  pub doc : PlainDoc

-- by the bytes of their names
abbrev pub ComesBefore : PlainPlan → PlainPlan → Type 0
ComesBefore one other = slice_cmp nat_cmp one.name other.name ≡ Less

-- no two have one name
abbrev pub AreApart : List PlainPlan → Type 0
AreApart files = AllPairs (λ (one : PlainPlan) (other : PlainPlan). one.name ≢ other.name) files

-- the same files in the order of their names
pub record AreInNameOrder (files sorted : List PlainPlan) : Type 0 where
  pub same : IsPermutation files sorted
  pub ascends : Ascends ComesBefore sorted

-- the most bytes of the next file: 64 MiB, or less where those before it leave less of 1 GiB
abbrev pub limit_after : List PlainInput → ℕ
limit_after before = min file_limit (total_limit - sum (map (λ (input : PlainInput). input.size) before))

-- a file of at most so many bytes, or why it can't be read
abbrev pub IsInputWithin : ℕ → (List ℕ → Option File) → PlainPlan → Result PlainInput Refusal → Type 0
IsInputWithin limit files plan =
    Then (ReadsFile limit plan.name (files plan.name)) (λ text.
    Then (ReadsText plan.name text) (λ doc r.
    r ≡ Ok (record { plan = plan; size = length text; doc = doc })))

-- the next file, or why it can't be read
abbrev pub IsInput : (List ℕ → Option File) → List PlainInput → PlainPlan → Result PlainInput Refusal → Type 0
IsInput files before = IsInputWithin (limit_after before) files

-- all of them in turn, or the first refusal
abbrev pub AreInputs : (List ℕ → Option File) → List PlainPlan → Result (List PlainInput) Refusal → Type 0
AreInputs files plans = InTurn (IsInput files) [] plans

-- the files of a control in the order of their names, and what they say
abbrev pub ReadsInputs : List PlainPlan → (List ℕ → Option File) → Result (List PlainInput) Refusal → Type 0
ReadsInputs plans files result = (sorted : List PlainPlan) × AreInNameOrder plans sorted × AreInputs files sorted result
