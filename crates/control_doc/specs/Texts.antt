-- What the texts of a control file may be.
use Rattle.std.specs.Prelude.{ℕ, Bool, ◌&&◌, nat_le, if◌then◌else◌, List, [], ◌∷◌, length, Option, Some, None, Result, Ok, Err, codes}
use Rattle.std.specs.List.{list_all}
use Rattle.std.specs.Str.{bytes_eq}
use Rattle.blanks.specs.Blanks.{trimmed}
use Rattle.snx_epoch.specs.Moments.{epoch_in}
use Rattle.snx_epoch.specs.declared.Epoch.{Epoch}
use Rattle.snx_epoch.specs.declared.EpochFault.{EpochFault}
use Rattle.param_ids.specs.Texts.{is_plain, kind_text, code_text, point_text, soln_text}
use Rattle.control_doc.specs.declared.plans.Form.{Form}
use Rattle.control_doc.specs.declared.plans.Form.TheVariants as forms
use Rattle.control_doc.specs.declared.plans.Held.{Held}
use Rattle.control_doc.specs.declared.plans.Held.TheVariants as held
use Rattle.control_doc.specs.declared.plans.Place.{Place}
use Rattle.control_doc.specs.declared.plans.Place.TheVariants as places

-- a byte that shows: from 33 to 126
abbrev pub is_shown : ℕ → Bool
is_shown byte = nat_le 33 byte && nat_le byte 126

-- a text of so many bytes that show, from the least number to the greatest
abbrev pub shown : ℕ → ℕ → List ℕ → Option (List ℕ)
shown least most text = if nat_le least (length text) && nat_le (length text) most && list_all is_shown text then Some text else None

-- an agency of 3 bytes, the name of a file of 1 to 60, a group of 1 to 8, another text that is named of 1 byte or more
abbrev pub agency_text : List ℕ → Option (List ℕ)
agency_text = shown 3 3

abbrev pub file_text : List ℕ → Option (List ℕ)
file_text = shown 1 60

abbrev pub group_text : List ℕ → Option (List ℕ)
group_text = shown 1 8

-- a text of the header: at most 60 bytes from 32 to 126
abbrev pub header_text : List ℕ → Option (List ℕ)
header_text text = if nat_le (length text) 60 && is_plain text then Some text else None

-- one letter from A to Z
abbrev pub letter : List ℕ → Option ℕ
letter [] = None
letter (byte ∷ []) = if nat_le 65 byte && nat_le byte 90 then Some byte else None
letter (byte ∷ more ∷ rest) = None

-- the moment that a text writes, if it does
abbrev pub moment_of : Result Epoch EpochFault → Option Epoch
moment_of (Ok moment) = Some moment
moment_of (Err fault) = None

-- a moment in 12 bytes; blanks are Never
abbrev pub created_text : List ℕ → Option Epoch
created_text text = if nat_le 12 (length text) && nat_le (length text) 12 then moment_of (epoch_in text) else None

-- the moment of a name, in at most 12 bytes; blanks or nothing are Never
abbrev pub epoch_text_of_name : List ℕ → Option Epoch
epoch_text_of_name text = if nat_le (length text) 12 then moment_of (epoch_in text) else None

-- the texts of names, in at most as many bytes as their fields have, blanks at the ends among them
abbrev pub in_field : ℕ → (List ℕ → Option (List ℕ)) → List ℕ → Option (List ℕ)
in_field width normal text = if nat_le (length text) width then normal (trimmed text) else None

abbrev pub kind_of_name : List ℕ → Option (List ℕ)
kind_of_name = in_field 6 kind_text

abbrev pub code_of_name : List ℕ → Option (List ℕ)
code_of_name = in_field 4 code_text

abbrev pub point_of_name : List ℕ → Option (List ℕ)
point_of_name = in_field 2 point_text

abbrev pub soln_of_name : List ℕ → Option (List ℕ)
soln_of_name = in_field 4 soln_text

-- the form of a file, the constraints that are removed of it, and the place of a reduction
abbrev pub form_text : List ℕ → Option Form
form_text text =
    if bytes_eq text (codes "auto") then Some forms.Auto
    else (if bytes_eq text (codes "neq") then Some forms.Neq
    else (if bytes_eq text (codes "solution") then Some forms.Solution else None))

abbrev pub held_text : List ℕ → Option Held
held_text text =
    if bytes_eq text (codes "auto") then Some held.Auto
    else (if bytes_eq text (codes "matrix") then Some held.Matrix
    else (if bytes_eq text (codes "sigma") then Some held.Sigma
    else (if bytes_eq text (codes "none") then Some held.Nothing else None)))

abbrev pub place_text : List ℕ → Option Place
place_text text =
    if bytes_eq text (codes "file") then Some places.File
    else (if bytes_eq text (codes "group") then Some places.Group
    else (if bytes_eq text (codes "end") then Some places.End else None))
