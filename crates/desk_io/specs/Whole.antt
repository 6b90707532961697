-- Whole files: what reading one answers, and what writing one leaves.
use Rattle.std.specs.Prelude.{◌≡◌, ◌⊎◌, ◌≤◌, ℕ, true, false, List, length, nat_lt, if◌then◌else◌, Some, None, Result, Ok, Err, OnOk, OnErr, IsErrOf, Option, Vec}
use Rattle.desk_io.specs.Content.{File, Content, SameBut, KeepsAll, IsFront}
use Rattle.desk_io.specs.Desk.{Rose}
use Rattle.desk_io.specs.declared.desk.DeskError.{DeskError}
use Rattle.desk_io.specs.declared.desk.DeskError.TheVariants as desk
use Rattle.desk_io.specs.declared.whole.ReadError.{ReadError}
use Rattle.desk_io.specs.declared.whole.ReadError.TheVariants as errors

-- what reading a file answers where the desk refuses a call
abbrev pub refusal : DeskError → ReadError
refusal desk.Fault = errors.Fault
refusal desk.Memory = errors.Memory

-- The bytes of a file, if it is there and no longer than the limit.
abbrev pub reading : Option File → ℕ → Result (List ℕ) ReadError
reading None limit = Err errors.NoFile
reading (Some file) limit = if nat_lt limit (length file.bytes) then Err errors.TooLong else Ok file.bytes

-- An error is that of the reading. A fault and want of memory may come in its place.
abbrev pub Refuses : ReadError → Result (List ℕ) ReadError → Type 0
Refuses errors.Fault read = Unit {0}
Refuses errors.Memory read = Unit {0}
Refuses errors.NoFile read = read ≡ Err errors.NoFile
Refuses errors.TooLong read = read ≡ Err errors.TooLong

-- The answer is the reading's, or a fault or want of memory in its place.
abbrev pub Answers : {A : Type 0} → Result (Vec ℕ A) ReadError → Result (List ℕ) ReadError → Type 0
Answers (Ok text) read = read ≡ Ok text.items
Answers (Err e) read = Refuses e read

-- The count of faults never falls. It rose where the answer is a fault, and is as before where it tells the
-- file's text, or that there is none or that it is too long.
pub record HasReadCause {T : Type 0} (before now : ℕ) (result : Result T ReadError) : Type 0 where
  pub later : before ≤ now
  pub fault : IsErrOf result errors.Fault → Rose before now
  pub unchanged : OnOk result (now ≡ before)
  pub no_file : IsErrOf result errors.NoFile → now ≡ before
  pub too_long : IsErrOf result errors.TooLong → now ≡ before

-- The file holds a prefix of the text, and isn't finished.
abbrev pub HoldsPart : List ℕ → List ℕ → Content → Type 0
HoldsPart name text new = (part : List ℕ) × IsFront part text × (new.files name ≡ Some (record { bytes = part; finished = false }))

-- The file holds the whole text and is finished. After a refusal it is as before, or, if it was
-- created, holds a prefix. All other files are as before, and nothing was said or read.
pub record WritesFile (name text : List ℕ) (old new : Content) (result : Result (Unit {0}) DeskError) : Type 0 where
  pub said : new.said ≡ old.said
  pub left : new.left ≡ old.left
  pub others : SameBut name old new
  pub whole : OnOk result (new.files name ≡ Some (record { bytes = text; finished = true }))
  pub part : OnErr result (KeepsAll old new ⊎ HoldsPart name text new)
