-- Several files, written one after another.
use Rattle.std.specs.Prelude.{◌≡◌, ◌≢◌, ◌⊎◌, ◌++◌, ◌∷◌, ℕ, List, [], true, Some, Result, Ok, Err}
use Rattle.std.specs.List.{All}
use Rattle.desk_io.specs.Content.{Content, SameBut, KeepsAll}
use Rattle.desk_io.specs.Whole.{HoldsPart}
use Rattle.desk_io.specs.declared.desk.DeskError.{DeskError}
use Rattle.desk_io.specs.declared.outputs.Output.{Output}

-- A file's name, and the text that it is to hold.
pub record NamedText : Type 0 where
  pub name : List ℕ
  pub text : List ℕ

-- an output as its name and its text
abbrev pub named_text : Output → NamedText
named_text output = record { name = output.name.now; text = output.text.items }

-- The output's file holds its whole text and is finished.
abbrev pub HoldsWhole : NamedText → Content → Type 0
HoldsWhole output new = new.files output.name ≡ Some (record { bytes = output.text; finished = true })

-- All files but this output's are as before, and nothing was said or read.
pub record ChangesAtMost (output : NamedText) (old new : Content) : Type 0 where
  pub others : SameBut output.name old new
  pub said : new.said ≡ old.said
  pub left : new.left ≡ old.left

-- One output is written whole, and nothing else changes.
pub record WritesOne (output : NamedText) (old new : Content) : Type 0 where
  pub whole : HoldsWhole output new
  pub only : ChangesAtMost output old new

-- One output is cut short: no file was created, or its file holds a prefix of its text and isn't finished. Nothing else
-- changes.
pub record CutsOne (output : NamedText) (old new : Content) : Type 0 where
  pub stands : KeepsAll old new ⊎ HoldsPart output.name output.text new
  pub only : ChangesAtMost output old new

-- The outputs are written whole, each after those before it, and nothing else changes.
abbrev pub AllWritten : List NamedText → Content → Content → Type 0
AllWritten [] old new = new ≡ old
AllWritten (output ∷ later) old new = (next : Content) × WritesOne output old next × AllWritten later next new

-- Some outputs, from the first on, are written whole, and the next one is cut short. Nothing else changes.
abbrev pub CutAmong : List NamedText → Content → Content → Type 0
CutAmong [] old new = ⊥
CutAmong (output ∷ later) old new = CutsOne output old new ⊎ ((next : Content) × WritesOne output old next × CutAmong later next new)

-- What a call that writes the outputs leaves: all of them whole, or on an error one of them cut short.
abbrev pub Writing : List NamedText → Content → Content → Result (Unit {0}) DeskError → Type 0
Writing outputs old new (Ok u) = AllWritten outputs old new
Writing outputs old new (Err e) = CutAmong outputs old new

-- No output has this name.
abbrev pub NamesNone : List NamedText → List ℕ → Type 0
NamesNone outputs name = All (λ output. name ≢ output.name) outputs

-- No two outputs have one name.
abbrev pub NamesDiffer : List NamedText → Type 0
NamesDiffer [] = Unit {0}
NamesDiffer (output ∷ later) = NamesNone later output.name × NamesDiffer later

-- Each output's file holds its whole text. All other files are as before, and nothing was said or read.
pub record StandsWhole (outputs : List NamedText) (old new : Content) : Type 0 where
  pub whole : All (λ output. HoldsWhole output new) outputs
  pub others : (name : List ℕ) → NamesNone outputs name → new.files name ≡ old.files name
  pub said : new.said ≡ old.said
  pub left : new.left ≡ old.left

-- Where writing the outputs stopped. The earlier ones are whole. The file of the one that was cut is as before, or holds a
-- prefix of its text and isn't finished. The files of the later ones and all other files are as before, and nothing was said
-- or read.
pub record StandsCut (outputs : List NamedText) (old new : Content) : Type 0 where
  pub earlier : List NamedText
  pub cut : NamedText
  pub later : List NamedText
  pub in_order : outputs ≡ earlier ++ cut ∷ later
  pub whole : All (λ output. HoldsWhole output new) earlier
  pub stands : (new.files cut.name ≡ old.files cut.name) ⊎ HoldsPart cut.name cut.text new
  pub untouched : All (λ output. new.files output.name ≡ old.files output.name) later
  pub others : (name : List ℕ) → NamesNone (earlier ++ cut ∷ []) name → new.files name ≡ old.files name
  pub said : new.said ≡ old.said
  pub left : new.left ≡ old.left

-- what stands after the outputs were written, or after an error
abbrev pub Stands : List NamedText → Content → Content → Result (Unit {0}) DeskError → Type 0
Stands outputs old new (Ok u) = StandsWhole outputs old new
Stands outputs old new (Err e) = StandsCut outputs old new
