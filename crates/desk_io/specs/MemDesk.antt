-- What a desk in memory holds, and which of its calls fail.
use Rattle.std.specs.Prelude.{◌≡◌, ◌==◌, ◌&&◌, ◌++◌, ◌+◌, ◌-◌, ◌/◌, ◌^◌, ℕ, Bool, List, [], length, take, drop, min, nat_lt, if◌then◌else◌, IsTrue, ◌↔◌, Some, Option, Result, IsErr, IsErrOf, string_bytes, String}
use Rattle.std.specs.List.{list_any}
use Rattle.std.specs.declared.alloc.Global.{Global}
use Rattle.std.specs.Option.{option_map}
use Rattle.std.specs.BTreeMap.{BTreeMap, get_by_text}
use Rattle.desk_io.specs.Content.{File, Content, Facts}
use Rattle.desk_io.specs.declared.desk.DeskError.{DeskError}
use Rattle.desk_io.specs.declared.desk.DeskError.TheVariants.{Fault}
use Rattle.desk_io.specs.declared.memory.MemFile.{MemFile}
use Rattle.desk_io.specs.declared.memory.MemDesk.{MemDesk}

abbrev pub file_of : MemFile → File
file_of file = record { bytes = file.bytes.items; finished = file.finished }

-- the file of that name
abbrev pub file_at : BTreeMap (String Global) MemFile → List ℕ → Option File
file_at files name = option_map file_of (get_by_text files name)

abbrev pub mem_content : MemDesk → Content
mem_content desk = record {
  files = file_at desk.files;
  said = desk.said.items;
  left = drop desk.at desk.reading.items;
  current = string_bytes desk.current;
}

abbrev pub mem_facts : MemDesk → Facts
mem_facts desk = record { opened = desk.opened; taken = desk.taken; writing = desk.writing }

-- Whether the call after so many calls fails: calls are numbered from 1, and those of the listed
-- numbers fail. A call past number 2 ^ 32 - 1 doesn't.
abbrev pub call_fails : List ℕ → ℕ → Bool
call_fails listed calls = nat_lt calls (2 ^ 32 - 1) && list_any (λ number. number == calls + 1) listed

abbrev pub next_fails : MemDesk → Bool
next_fails desk = call_fails desk.fail.items desk.calls

-- The call was counted, and the count of faults rose by one exactly where it fails. Both counts
-- stand still at their type's end. The list stays, so where it is empty no call ever fails.
pub record Counted (old new : MemDesk) : Type 0 where
  pub calls : new.calls ≡ min (old.calls + 1) (2 ^ 32 - 1)
  pub faults : new.faults ≡ (if next_fails old then min (old.faults + 1) (2 ^ 64 - 1) else old.faults)
  pub fail : new.fail ≡ old.fail
  pub faultless : old.fail.items ≡ [] → new.faults ≡ old.faults

-- A call that fails changes nothing but the counts, and no other call answers Fault.
pub record FailsWhole {T : Type 0} (old new : MemDesk) (result : Result T DeskError) : Type 0 where
  pub counted : Counted old new
  pub fault : IsErrOf result Fault ↔ IsTrue (next_fails old)
  pub kept : IsTrue (next_fails old) → mem_content new ≡ mem_content old

-- A call that fails is refused, and no other call answers Fault.
pub record FailsHalf {T : Type 0} (old new : MemDesk) (result : Result T DeskError) : Type 0 where
  pub counted : Counted old new
  pub fault : IsErrOf result Fault → IsTrue (next_fails old)
  pub refused : IsTrue (next_fails old) → IsErr result

-- the first half of the bytes, rounded down
abbrev pub half : List ℕ → List ℕ
half bytes = take (length bytes / 2) bytes

-- After a fault the first half of the bytes was appended to the file that was created last.
abbrev pub WritesHalf : List ℕ → Content → Content → Type 0
WritesHalf bytes old new = (file : File) → old.files old.current ≡ Some file →
    new.files old.current ≡ Some (record { bytes = file.bytes ++ half bytes; finished = file.finished })
