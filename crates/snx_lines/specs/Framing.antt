-- How the lines of a SINEX text frame its blocks, and which line is bad for which cause (SINEX 2.02 format description).
-- What is said of a line speaks of it and of the lines before it.
use Rattle.std.specs.Prelude.{◌≡◌, ◌<◌, ◌≤◌, ◌+◌, ℕ, Bool, true, false, ◌||◌, ◌&&◌, if◌then◌else◌, not, nat_eq, List, [], ◌∷◌, take, take_while, drop, length, reverse, filter, flat_map, find, All, Option, Some, None, codes, slice_get}
use Rattle.std.specs.List.{list_any, starts_with}
use Rattle.std.specs.Str.{bytes_eq}
use Rattle.blanks.specs.Blanks.{is_blank_text}
use Rattle.stated_order.specs.First.{HoldsBelow}
use Rattle.snx_lines.specs.Lines.{PlainLine, kind_of, name_on}
use Rattle.snx_lines.specs.declared.columns.Kind.{Kind}
use Rattle.snx_lines.specs.declared.columns.Kind.TheVariants as kinds
use Rattle.snx_lines.specs.declared.blocks.FrameCause.{FrameCause}
use Rattle.snx_lines.specs.declared.blocks.FrameCause.TheVariants as causes
use Rattle.snx_lines.specs.declared.blocks.FrameFault.{FrameFault}

-- the first line of a text
abbrev pub is_header : List ℕ → Bool
is_header text = starts_with nat_eq text (codes "%=SNX")

-- a version of the format that is read
abbrev pub is_version : List ℕ → Bool
is_version text = starts_with nat_eq text (codes "2.00") || starts_with nat_eq text (codes "2.01") || starts_with nat_eq text (codes "2.02")

-- columns 7 to 10 of the first line hold one
abbrev pub has_version : List ℕ → Bool
has_version text = is_version (drop 6 text)

-- the line that closes the text
abbrev pub is_footer : List ℕ → Bool
is_footer text = starts_with nat_eq text (codes "%ENDSNX")

abbrev pub is_kind_title : Option Kind → Bool
is_kind_title (Some kinds.Start) = true
is_kind_title other = false

abbrev pub is_kind_end : Option Kind → Bool
is_kind_end (Some kinds.End) = true
is_kind_end other = false

abbrev pub is_kind_data : Option Kind → Bool
is_kind_data (Some kinds.Data) = true
is_kind_data other = false

-- a line that opens a block
abbrev pub is_title : PlainLine → Bool
is_title line = is_kind_title (kind_of line.text)

-- a line that ends one
abbrev pub is_end : PlainLine → Bool
is_end line = is_kind_end (kind_of line.text)

-- either of the two
abbrev pub is_mark : PlainLine → Bool
is_mark line = is_title line || is_end line

-- a line of data that is not all blank
abbrev pub is_body : PlainLine → Bool
is_body line = is_kind_data (kind_of line.text) && not (is_blank_text line.text)

-- the footer is among these lines
abbrev pub is_closed : List PlainLine → Bool
is_closed before = list_any (λ line. is_footer line.text) before

-- the last of these lines that opens or ends a block
abbrev pub last_mark : List PlainLine → Option PlainLine
last_mark before = find is_mark (reverse before)

-- the name on a line, if it is a title
abbrev pub title_name : Option PlainLine → Option (List ℕ)
title_name None = None
title_name (Some line) = if is_title line then Some (name_on line.text) else None

-- the name of the block that is open after these lines: the last line of them that opens or ends a block, where it opens one
abbrev pub open_name : List PlainLine → Option (List ℕ)
open_name before = title_name (last_mark before)

-- why line 1 is bad, if it is
abbrev pub first_cause : List ℕ → Option FrameCause
first_cause text =
    if is_header text then (if has_version text then None else Some causes.Version)
    else Some causes.NoHeader

-- a cause that a line has where a block is open
abbrev pub some_open : Option (List ℕ) → FrameCause → Option FrameCause
some_open None cause = None
some_open (Some name) cause = Some cause

-- a cause that it has where none is
abbrev pub none_open : Option (List ℕ) → FrameCause → Option FrameCause
none_open None cause = Some cause
none_open (Some name) cause = None

-- why an end line is bad, by the name of the open block
abbrev pub end_cause : Option (List ℕ) → List ℕ → Option FrameCause
end_cause None text = Some causes.WrongEnd
end_cause (Some name) text = if bytes_eq name (name_on text) then None else Some causes.WrongEnd

-- why a line that is not blank is bad before the footer, by what its first column says and by the name of the open block
abbrev pub kind_cause : Option Kind → Option (List ℕ) → List ℕ → Option FrameCause
kind_cause None name text = Some causes.FirstColumn
kind_cause (Some kinds.Header) name text = if is_footer text then some_open name causes.NoEnd else Some causes.FirstColumn
kind_cause (Some kinds.Comment) name text = None
kind_cause (Some kinds.Start) name text = some_open name causes.Nested
kind_cause (Some kinds.End) name text = end_cause name text
kind_cause (Some kinds.Data) name text = none_open name causes.FirstColumn

-- why a later line is bad, where the footer stands before it or does not
abbrev pub later_cause : Bool → Option (List ℕ) → List ℕ → Option FrameCause
later_cause closed name text =
    if is_blank_text text then None
    else (if closed then Some causes.AfterFooter else kind_cause (kind_of text) name text)

-- why the end of a text that has lines is bad
abbrev pub last_cause : Bool → Option (List ℕ) → Option FrameCause
last_cause true name = None
last_cause false None = Some causes.NoFooter
last_cause false (Some name) = Some causes.NoEnd

-- why what stands after these lines is bad, if it is: a line, or the end of the text
abbrev pub frame_cause : List PlainLine → Option PlainLine → Option FrameCause
frame_cause [] None = Some causes.NoHeader
frame_cause [] (Some line) = first_cause line.text
frame_cause (first ∷ before) None = last_cause (is_closed (first ∷ before)) (open_name (first ∷ before))
frame_cause (first ∷ before) (Some line) = later_cause (is_closed (first ∷ before)) (open_name (first ∷ before)) line.text

-- the same at place n of the lines, from 0; the place after the last line is the end of the text
abbrev pub cause_at : List PlainLine → ℕ → Option FrameCause
cause_at lines n = frame_cause (take n lines) (slice_get lines n)

-- what stands there is not bad
abbrev pub IsGoodAt : List PlainLine → ℕ → Type 0
IsGoodAt lines n = cause_at lines n ≡ None

-- a block without where it lies in memory
pub record PlainBlock : Type 0 where
  pub name : List ℕ
  pub title : PlainLine
  pub body : List PlainLine

-- the lines of data at the front of these lines, up to the next line that opens or ends a block
abbrev pub data_lines : List PlainLine → List PlainLine
data_lines lines = filter is_body (take_while (λ line. not (is_mark line)) lines)

-- the block of a title: its name, and the lines of data after it
abbrev pub block_of : PlainLine → List PlainLine → PlainBlock
block_of title rest = record { name = name_on title.text; title = title; body = data_lines rest }

-- the blocks of these lines, one for each title; the last may have no end
abbrev pub blocks_of : List PlainLine → List PlainBlock
blocks_of [] = []
blocks_of (line ∷ rest) = if is_title line then block_of line rest ∷ blocks_of rest else blocks_of rest

-- the blocks of a text up to its first bad line, and that line, if there is one
pub record PlainFraming : Type 0 where
  pub blocks : List PlainBlock
  pub stop : Option FrameFault

-- reading stops at place n: what stands there is bad, for this cause; or it goes on past the end of the text
abbrev pub StopsAt : List PlainLine → ℕ → Option FrameFault → Type 0
StopsAt lines n None = length lines < n
StopsAt lines n (Some fault) = (n ≤ length lines) × (cause_at lines n ≡ Some fault.cause) × (fault.line ≡ n + 1)

-- the framing of these lines: nothing before the place at which reading stops is bad, and the blocks are those of the lines before it
pub record IsFraming (lines : List PlainLine) (framing : PlainFraming) : Type 0 where
  pub place : ℕ
  pub before : HoldsBelow place (IsGoodAt lines)
  pub stop : StopsAt lines place framing.stop
  pub blocks : framing.blocks ≡ blocks_of (take place lines)

-- all lines of some blocks, in their order
abbrev pub lines_held : List PlainBlock → List PlainLine
lines_held blocks = flat_map (λ (block : PlainBlock). block.title ∷ block.body) blocks

-- the first line has the lesser number
abbrev pub StandsBefore : PlainLine → PlainLine → Type 0
StandsBefore one other = one.number < other.number

-- lines stand before a bad line, if there is one
abbrev pub StandBelow : Option FrameFault → List PlainLine → Type 0
StandBelow None lines = Unit {0}
StandBelow (Some fault) lines = All (λ line. line.number < fault.line) lines

pub record PlainFrame : Type 0 where
  pub header : PlainLine
  pub blocks : List PlainBlock

-- the frame of these lines, of which none is bad: line 1, and the blocks
pub record IsFrameOf (lines : List PlainLine) (frame : PlainFrame) : Type 0 where
  pub framed : IsFraming lines (record { blocks = frame.blocks; stop = None })
  pub header : slice_get lines 0 ≡ Some frame.header

-- the first bad line of these lines, with its cause
pub record IsFirstFault (lines : List PlainLine) (fault : FrameFault) : Type 0 where
  pub blocks : List PlainBlock
  pub framed : IsFraming lines (record { blocks = blocks; stop = Some fault })
