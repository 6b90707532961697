-- What a desk holds and tells.
use Rattle.std.specs.Prelude.{◌≡◌, ◌≢◌, ◌++◌, ◌+◌, ◌-◌, ◌^◌, ℕ, Bool, false, List, [], min, None, Option}

-- A file, and whether it was finished since it was created.
pub record File : Type 0 where
  pub bytes : List ℕ
  pub finished : Bool

-- What a desk holds: its files by name, what was said, what is left to read of the file that was
-- opened last, and the name of the file that was created last.
pub record Content : Type 0 where
  pub files : List ℕ → Option File
  pub said : List ℕ
  pub left : List ℕ
  pub current : List ℕ

-- What every desk tells: whether its last open found the file, how many bytes its reads have taken
-- since, and whether a file was created and the one created last isn't finished.
pub record Facts : Type 0 where
  pub opened : Bool
  pub taken : ℕ
  pub writing : Bool

-- All files but this one are as before.
abbrev pub SameBut : List ℕ → Content → Content → Type 0
SameBut name old new = (other : List ℕ) → other ≢ name → new.files other ≡ old.files other

-- what is told after an open, with nothing taken yet
abbrev pub after_open : Facts → Bool → Facts
after_open facts found = record { opened = found; taken = 0; writing = facts.writing }

-- what is told after a read, whose count is added up to the end of its type
abbrev pub after_read : Facts → ℕ → Facts
after_read facts count = record { opened = facts.opened; taken = min (facts.taken + count) (2 ^ 64 - 1); writing = facts.writing }

-- what is told after a file was created or finished
abbrev pub with_writing : Facts → Bool → Facts
with_writing facts writing = record { opened = facts.opened; taken = facts.taken; writing = writing }

-- what a new desk tells
abbrev pub no_facts : Facts
no_facts = record { opened = false; taken = 0; writing = false }

-- Nothing was created, written or said.
pub record KeepsAll (old new : Content) : Type 0 where
  pub files : new.files ≡ old.files
  pub said : new.said ≡ old.said
  pub current : new.current ≡ old.current

-- The whole list begins with this part.
abbrev pub IsFront : List ℕ → List ℕ → Type 0
IsFront part whole = (rest : List ℕ) × (whole ≡ part ++ rest)

-- No files, and nothing said: the content of a new desk, and of one that tells none.
abbrev pub no_content : Content
no_content = record { files = λ _. None; said = []; left = []; current = [] }
