-- The pass over the lines: what is kept between two lines, and what a line does to it.
-- `proofs/Passed.antt` ties it to what `Framing` says of the list of all lines.
use Rattle.std.specs.Prelude.{ℕ, ◌+◌, ◌==◌, Bool, false, ◌||◌, if◌then◌else◌, List, [], ◌∷◌, ◌++◌, map, Option, Some, None}
use Rattle.std.specs.Option.{option_map}
use Rattle.blanks.specs.Blanks.{is_blank_text}
use Rattle.snx_lines.specs.Lines.{kind_of, PlainLine, line_at, name_on}
use Rattle.snx_lines.specs.Framing.{PlainBlock, PlainFraming, is_footer, first_cause, later_cause, last_cause}
use Rattle.snx_lines.specs.Views.{block_view}
use Rattle.snx_lines.specs.declared.columns.Kind.{Kind}
use Rattle.snx_lines.specs.declared.columns.Kind.TheVariants as kinds
use Rattle.snx_lines.specs.declared.blocks.FrameCause.{FrameCause}
use Rattle.snx_lines.specs.declared.blocks.FrameCause.TheVariants as causes
use Rattle.snx_lines.specs.declared.blocks.FrameFault.{FrameFault}
use Rattle.snx_lines.specs.declared.passing.Framer.{Framer}

-- the blocks so far, the block that is open, whether the footer came, and how many lines there were
pub record State : Type 0 where
  pub blocks : List PlainBlock
  pub current : Option PlainBlock
  pub closed : Bool
  pub number : ℕ

-- before line 1
abbrev pub start : State
start = record { blocks = []; current = None; closed = false; number = 0 }

abbrev pub with_line : PlainLine → PlainBlock → PlainBlock
with_line line block = record { name = block.name; title = block.title; body = block.body ++ line ∷ [] }

abbrev pub blocks_with : Option PlainBlock → List PlainBlock → List PlainBlock
blocks_with None blocks = blocks
blocks_with (Some block) blocks = blocks ++ block ∷ []

-- the block that is open after a line that is not bad, by what its first column says
abbrev pub current_after : Option Kind → Option PlainBlock → PlainLine → Option PlainBlock
current_after (Some kinds.Start) current line = Some (record { name = name_on line.text; title = line; body = [] })
current_after (Some kinds.End) current line = None
current_after (Some kinds.Data) current line = if is_blank_text line.text then current else option_map (with_line line) current
current_after kind current line = current

-- the blocks that have ended after it
abbrev pub blocks_after : Option Kind → Option PlainBlock → List PlainBlock → List PlainBlock
blocks_after (Some kinds.End) current blocks = blocks_with current blocks
blocks_after kind current blocks = blocks

-- what a line that is not bad does
abbrev pub kept : State → List ℕ → State
kept state text = record {
  blocks = blocks_after (kind_of text) state.current state.blocks;
  current = current_after (kind_of text) state.current (line_at (state.number + 1) text);
  closed = state.closed || is_footer text;
  number = state.number + 1;
}

abbrev pub name_open : Option PlainBlock → Option (List ℕ)
name_open current = option_map (λ (block : PlainBlock). block.name) current

-- why a further line is bad
abbrev pub next_cause : State → List ℕ → Option FrameCause
next_cause state text = if state.number == 0 then first_cause text else later_cause state.closed (name_open state.current) text

-- why the end of the text is
abbrev pub text_end_cause : State → Option FrameCause
text_end_cause state = if state.number == 0 then Some causes.NoHeader else last_cause state.closed (name_open state.current)

abbrev pub fault_at : ℕ → FrameCause → FrameFault
fault_at number cause = record { line = number; cause = cause }

-- what is answered where the next line is bad for a cause, or the end of the text for none
abbrev pub framed : State → Option FrameCause → PlainFraming
framed state cause = record { blocks = blocks_with state.current state.blocks; stop = option_map (fault_at (state.number + 1)) cause }

abbrev pub state_view : Framer → State
state_view framer = record { blocks = map block_view framer.blocks.items; current = option_map block_view framer.current; closed = framer.closed; number = framer.number }
