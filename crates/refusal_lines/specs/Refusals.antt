-- Refusals: the status and the line of each.
use Rattle.std.specs.Prelude.{◌≡◌, ◌⊎◌, ◌++◌, ◌∷◌, ℕ, List, [], codes}
use Rattle.std.specs.List.{join_with_byte}
use Rattle.std.specs.Fmt.{decimal}
use Rattle.blanks.specs.Blanks.{trimmed}
use Rattle.snx_lines.specs.declared.blocks.FrameCause.{FrameCause}
use Rattle.snx_lines.specs.declared.blocks.FrameCause.TheVariants as frames
use Rattle.param_ids.specs.Plain.{PlainId}
use Rattle.param_ids.specs.Ids.{id_text}
use Rattle.snx_rows.specs.declared.causes.Cause.{Cause}
use Rattle.snx_rows.specs.declared.causes.Cause.TheVariants as lines
use Rattle.snx_blocks.specs.Sections.{section_name}
use Rattle.control_doc.specs.declared.faults.ControlCause.{ControlCause}
use Rattle.control_doc.specs.declared.faults.ControlCause.TheVariants as controls
use Rattle.control_doc.specs.declared.plans.Site.{Site}
use Rattle.refusal_lines.specs.declared.refusal.Scope.{Scope}
use Rattle.refusal_lines.specs.declared.refusal.Scope.TheVariants.{File, Group, Stack}
use Rattle.refusal_lines.specs.declared.refusal.Refusal.{Refusal}
use Rattle.refusal_lines.specs.declared.refusal.Refusal.TheVariants.{Words, Control, NoFile, TooLong, Line, Block, UnitClash, Unmatched, NoWeight, UnmatchedSite, Empty, TooMany, Unbuilt, Memory, Desk, Range, Pivot, Condition, Residual, Defect}

-- the statuses that a run answers
abbrev pub IsStatus : ℕ → Type 0
IsStatus status = (status ≡ 0) ⊎ (status ≡ 2) ⊎ (status ≡ 3) ⊎ (status ≡ 4) ⊎ (status ≡ 5) ⊎ (status ≡ 6)

-- 2: the words are no command. 3: what was to be read can't be. 4: memory is wanting. 5: the desk failed. 6: a number passes
-- its range, or the rules don't certify it.
abbrev pub status_of : Refusal → ℕ
status_of Words = 2
status_of (Control cause path) = 3
status_of (NoFile name) = 3
status_of (TooLong name) = 3
status_of (Line name fault) = 3
status_of (Block place block) = 3
status_of (UnitClash id) = 3
status_of (Unmatched place id) = 3
status_of (NoWeight place id) = 3
status_of (UnmatchedSite site) = 3
status_of (Empty place) = 3
status_of (TooMany place count) = 3
status_of (Unbuilt name) = 3
status_of Memory = 4
status_of Desk = 5
status_of (Range place row col) = 6
status_of (Pivot place id) = 6
status_of (Condition place id) = 6
status_of (Residual place id size) = 6
status_of (Defect place id parts) = 6

-- where a refusal arose
abbrev pub place_text : Scope → List ℕ
place_text (File name) = codes "file:" ++ name
place_text (Group name) = codes "group:" ++ name
place_text Stack = codes "stack"

-- why a line breaks the frame of its text
abbrev pub frame_text : FrameCause → List ℕ
frame_text frames.NoHeader = codes "NoHeader"
frame_text frames.Version = codes "Version"
frame_text frames.FirstColumn = codes "FirstColumn"
frame_text frames.Nested = codes "Nested"
frame_text frames.WrongEnd = codes "WrongEnd"
frame_text frames.NoEnd = codes "NoEnd"
frame_text frames.AfterFooter = codes "AfterFooter"
frame_text frames.NoFooter = codes "NoFooter"

-- why a line is bad
abbrev pub cause_text : Cause → List ℕ
cause_text (lines.Frame cause) = frame_text cause
cause_text lines.Field = codes "Field"
cause_text (lines.Epoch fault) = codes "Epoch"
cause_text lines.Index = codes "Index"
cause_text (lines.Number fault) = codes "Number"
cause_text lines.Size = codes "Size"
cause_text lines.Triangle = codes "Triangle"
cause_text lines.Repeated = codes "Repeated"
cause_text lines.MissingBlock = codes "MissingBlock"
cause_text lines.TooMany = codes "TooMany"

-- why a control file says no control; a text that is no TOML has no path
abbrev pub control_cause_text : ControlCause → List ℕ
control_cause_text controls.Syntax = codes "syntax"
control_cause_text controls.Key = codes "key"
control_cause_text controls.Kind = codes "kind"
control_cause_text controls.Value = codes "value"
control_cause_text controls.Repeated = codes "repeated"
control_cause_text controls.TooMany = codes "toomany"
control_cause_text controls.SameName = codes "samename"

abbrev pub control_text : ControlCause → List ℕ → List ℕ
control_text controls.Syntax path = codes "control syntax"
control_text cause path = codes "control " ++ (control_cause_text cause ++ (codes " " ++ path))

-- what is refused of a parameter, and where
abbrev pub at_unknown : List ℕ → Scope → PlainId → List ℕ
at_unknown what place id = what ++ (place_text place ++ (codes " " ++ id_text id))

-- a site of a datum: its texts without blanks, joined by `/`
abbrev pub site_text : Site → List ℕ
site_text site = join_with_byte 47 (trimmed site.code ∷ trimmed site.point ∷ trimmed site.soln ∷ [])

-- what a refusal says
abbrev pub text_of : Refusal → List ℕ
text_of Words = codes "words"
text_of (Control cause path) = control_text cause path
text_of (NoFile name) = codes "no file " ++ name
text_of (TooLong name) = codes "too long " ++ name
text_of (Line name fault) = name ++ (codes ":" ++ (decimal fault.line ++ (codes " " ++ cause_text fault.cause)))
text_of (Block place block) = codes "block " ++ (place_text place ++ (codes " " ++ section_name block))
text_of (UnitClash id) = codes "unit " ++ id_text id
text_of (Unmatched place id) = at_unknown (codes "unmatched ") place id
text_of (NoWeight place id) = at_unknown (codes "no weight ") place id
text_of (UnmatchedSite site) = codes "unmatched site " ++ site_text site
text_of (Empty place) = codes "empty " ++ place_text place
text_of (TooMany place count) = codes "too many " ++ (place_text place ++ (codes " " ++ decimal count))
text_of (Unbuilt name) = codes "unbuilt " ++ name
text_of Memory = codes "memory"
text_of Desk = codes "desk"
text_of (Range place row col) = at_unknown (codes "range ") place row ++ (codes " " ++ id_text col)
text_of (Pivot place id) = at_unknown (codes "pivot ") place id
text_of (Condition place id) = at_unknown (codes "condition ") place id
text_of (Residual place id size) = at_unknown (codes "residual ") place id ++ (codes " " ++ decimal size)
text_of (Defect place id parts) = at_unknown (codes "defect ") place id ++ (codes " " ++ decimal parts)

-- the line that is said
abbrev pub line_of : Refusal → List ℕ
line_of refusal = codes "snxcomb: " ++ (text_of refusal ++ codes "\n")
