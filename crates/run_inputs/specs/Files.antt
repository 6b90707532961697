-- Files that are read, each whole, and the documents that their texts are.
use Rattle.std.specs.Prelude.{◌≡◌, ◌⊎◌, ◌≤◌, ◌<◌, ◌^◌, ℕ, List, length, Some, None, Option, Result, Ok, Err}
use Rattle.stated_order.specs.Steps.{Renamed}
use Rattle.desk_io.specs.Content.{File}
use Rattle.snx_blocks.specs.Documents.{PlainDoc, IsDocument}
use Rattle.refusal_lines.specs.declared.refusal.Refusal.{Refusal}
use Rattle.refusal_lines.specs.declared.refusal.Refusal.TheVariants.{NoFile, TooLong, Line}

-- the most bytes of a SINEX file, of all SINEX files of a run together, and of a control file: 64 MiB, 1 GiB and 1 MiB
abbrev pub file_limit : ℕ
file_limit = 2 ^ 26

abbrev pub total_limit : ℕ
total_limit = 2 ^ 30

abbrev pub control_limit : ℕ
control_limit = 2 ^ 20

-- the bytes of the file of that name, if there is one and it has at most so many
abbrev pub ReadsFile : ℕ → List ℕ → Option File → Result (List ℕ) Refusal → Type 0
ReadsFile limit name None result = result ≡ Err (NoFile name)
ReadsFile limit name (Some file) result =
    ((length file.bytes ≤ limit) × (result ≡ Ok file.bytes)) ⊎ ((limit < length file.bytes) × (result ≡ Err (TooLong name)))

-- what the text of that file says, or its first bad line
abbrev pub ReadsText : List ℕ → List ℕ → Result PlainDoc Refusal → Type 0
ReadsText name text = Renamed (λ fault. Line name fault) (IsDocument text)
