-- The lines of SITE/ID and SOLUTION/EPOCHS: what a line says, in the order in which it is tested (SINEX 2.02 format description).
use Rattle.std.specs.Prelude.{◌≡◌, ◌∷◌, ℕ, if◌then◌else◌, List, [], Option, Some, None, Result, Ok}
use Rattle.stated_order.specs.Steps.{IsOne, Then, Renamed, InTurn}
use Rattle.blanks.specs.Blanks.{end_trimmed}
use Rattle.snx_lines.specs.Lines.{PlainLine, columns}
use Rattle.snx_epoch.specs.Moments.{epoch_in}
use Rattle.snx_epoch.specs.declared.Epoch.{Epoch}
use Rattle.param_ids.specs.Texts.{is_plain_byte, code_text, point_text, soln_text}
use Rattle.snx_rows.specs.Rows.{or_cause, fault_at}
use Rattle.snx_rows.specs.declared.causes.Cause.{Cause}
use Rattle.snx_rows.specs.declared.causes.Cause.TheVariants as causes
use Rattle.snx_rows.specs.declared.causes.LineFault.{LineFault}
use Rattle.snx_sites.specs.Plain.{PlainSite, PlainEpochRow}

-- ---- the fields
-- the code of the site, in columns 2 to 5
abbrev pub IsCodeOn : List ℕ → Result (List ℕ) Cause → Type 0
IsCodeOn text result = result ≡ or_cause causes.Field (code_text (columns text 2 5))

-- its point, in columns 7 to 8
abbrev pub IsPointOn : List ℕ → Result (List ℕ) Cause → Type 0
IsPointOn text result = result ≡ or_cause causes.Field (point_text (columns text 7 8))

-- the solution, in columns 10 to 13
abbrev pub IsSolnOn : List ℕ → Result (List ℕ) Cause → Type 0
IsSolnOn text result = result ≡ or_cause causes.Field (soln_text (columns text 10 13))

-- the technique, a byte in column 15; a blank where none stands there
abbrev pub technique_of : List ℕ → Option ℕ
technique_of [] = Some 32
technique_of (byte ∷ rest) = if is_plain_byte byte then Some byte else None

abbrev pub IsTechniqueOn : List ℕ → Result ℕ Cause → Type 0
IsTechniqueOn text result = result ≡ or_cause causes.Field (technique_of (columns text 15 15))

-- the moment in columns `first` to `last`
abbrev pub IsMomentIn : ℕ → ℕ → List ℕ → Result Epoch Cause → Type 0
IsMomentIn first last text = Renamed (λ fault. causes.Epoch fault) (λ moment. moment ≡ epoch_in (columns text first last))

-- ---- SITE/ID
-- what a line says of a site, or the first cause for which it says nothing; the text of the line has no blanks at its end
abbrev pub IsSiteOn : List ℕ → Result PlainSite Cause → Type 0
IsSiteOn text =
    Then (IsCodeOn text) (λ code.
    Then (IsPointOn text) (λ point other.
    other ≡ Ok (record { code = code; point = point; text = end_trimmed text })))

abbrev pub IsSite : PlainLine → Result PlainSite LineFault → Type 0
IsSite line = Renamed (fault_at line.number) (IsSiteOn line.text)

-- the sites of a block with these lines of data, or its first bad line
abbrev pub AreSites : List PlainLine → Result (List PlainSite) LineFault → Type 0
AreSites lines = InTurn (λ before. IsSite) [] lines

-- a block of sites has one reading at most, or one bad line, and never both
abbrev pub OneSites : Type 0
OneSites = (lines : List PlainLine) → IsOne (AreSites lines)

-- ---- SOLUTION/EPOCHS
-- the moments that a line gives of a solution, or the first cause for which it gives none
abbrev pub AreMomentsOn : List ℕ → Result PlainEpochRow Cause → Type 0
AreMomentsOn text =
    Then (IsCodeOn text) (λ code.
    Then (IsPointOn text) (λ point.
    Then (IsSolnOn text) (λ soln.
    Then (IsTechniqueOn text) (λ technique.
    Then (IsMomentIn 17 28 text) (λ start.
    Then (IsMomentIn 30 41 text) (λ end.
    Then (IsMomentIn 43 54 text) (λ mean other.
    other ≡ Ok (record { code = code; point = point; soln = soln; technique = technique; start = start; end = end; mean = mean }))))))))

abbrev pub IsEpochRow : PlainLine → Result PlainEpochRow LineFault → Type 0
IsEpochRow line = Renamed (fault_at line.number) (AreMomentsOn line.text)

-- the moments of a block with these lines of data, or its first bad line
abbrev pub AreEpochs : List PlainLine → Result (List PlainEpochRow) LineFault → Type 0
AreEpochs lines = InTurn (λ before. IsEpochRow) [] lines

-- a block of moments has one reading at most, or one bad line, and never both
abbrev pub OneEpochs : Type 0
OneEpochs = (lines : List PlainLine) → IsOne (AreEpochs lines)
