-- What the calls of a desk do.
use Rattle.std.specs.Prelude.{◌≡◌, ◌++◌, ◌+◌, ◌-◌, ◌^◌, ◌<◌, ◌≤◌, ℕ, Bool, true, false, List, [], length, take, min, IfSome, Some, is_some, Result, MatchResult, IfOk, OnOk, OnErr, IsErrOf}
use Rattle.desk_io.specs.Content.{File, Content, SameBut, KeepsAll, IsFront}
use Rattle.desk_io.specs.declared.desk.DeskError.{DeskError}
use Rattle.desk_io.specs.declared.desk.DeskError.TheVariants.{Fault}

-- A count of faults has risen. It stands still at its type's end.
abbrev pub Rose : ℕ → ℕ → Type 0
Rose before now = min (before + 1) (2 ^ 64 - 1) ≤ now

-- The count of faults never falls. A call answers Fault only where it rose, and Ok only where it is as before.
pub record HasCause {T : Type 0} (before now : ℕ) (result : Result T DeskError) : Type 0 where
  pub later : before ≤ now
  pub unchanged : OnOk result (now ≡ before)
  pub fault : IsErrOf result Fault → Rose before now

-- An open answers whether there is a file of that name, and all of its bytes are then left to read.
pub record Opens (name : List ℕ) (old new : Content) (result : Result Bool DeskError) : Type 0 where
  pub keeps : KeepsAll old new
  pub found : IfOk result (λ found. found ≡ is_some (old.files name))
  pub start : IfOk result (λ _. IfSome (old.files name) (λ file. new.left ≡ file.bytes))

-- A read takes the first of the bytes that are left, and none of a nonempty buffer only at their end.
pub record Reads (buffer : List ℕ) (old new : Content) (result : Result ℕ DeskError) : Type 0 where
  pub keeps : KeepsAll old new
  pub bytes : IfOk result (λ count. old.left ≡ take count buffer ++ new.left)
  pub at_end : IfOk result (λ count. count ≡ 0 → 0 < length buffer → old.left ≡ [])

-- The name is an empty file, and all others are as before.
pub record Creates (name : List ℕ) (old new : Content) (result : Result (Unit {0}) DeskError) : Type 0 where
  pub said : new.said ≡ old.said
  pub left : new.left ≡ old.left
  pub others : OnOk result (SameBut name old new)
  pub current : OnOk result (new.current ≡ name)
  pub empty : OnOk result (new.files name ≡ Some (record { bytes = []; finished = false }))
  pub refused : OnErr result (KeepsAll old new)

-- A prefix of the bytes is appended to the file that was created last, on Ok all of them.
pub record Writes (bytes : List ℕ) (old new : Content) (result : Result (Unit {0}) DeskError) : Type 0 where
  pub said : new.said ≡ old.said
  pub left : new.left ≡ old.left
  pub current : new.current ≡ old.current
  pub others : SameBut old.current old new
  pub appended : (file : File) → old.files old.current ≡ Some file →
      MatchResult result
      (λ _. new.files old.current ≡ Some (record { bytes = file.bytes ++ bytes; finished = file.finished }))
      (λ _. (part : List ℕ) × IsFront part bytes × (new.files old.current ≡ Some (record { bytes = file.bytes ++ part; finished = file.finished })))

-- The file that was created last is finished, with the bytes that it has.
pub record Finishes (old new : Content) (result : Result (Unit {0}) DeskError) : Type 0 where
  pub said : new.said ≡ old.said
  pub left : new.left ≡ old.left
  pub current : new.current ≡ old.current
  pub others : SameBut old.current old new
  pub done : (file : File) → old.files old.current ≡ Some file →
      OnOk result (new.files old.current ≡ Some (record { bytes = file.bytes; finished = true }))
  pub refused : OnErr result (KeepsAll old new)

-- A prefix of the bytes is said, on Ok all of them.
pub record Says (bytes : List ℕ) (old new : Content) (result : Result (Unit {0}) DeskError) : Type 0 where
  pub files : new.files ≡ old.files
  pub left : new.left ≡ old.left
  pub current : new.current ≡ old.current
  pub appended : MatchResult result (λ _. new.said ≡ old.said ++ bytes) (λ _. (part : List ℕ) × IsFront part bytes × (new.said ≡ old.said ++ part))
