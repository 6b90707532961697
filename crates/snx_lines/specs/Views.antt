-- What the code holds, without where it lies in memory.
use Rattle.std.specs.Prelude.{List, map, Result, Ok, Err, Some}
use Rattle.snx_lines.specs.Lines.{PlainLine}
use Rattle.snx_lines.specs.Framing.{PlainBlock, PlainFraming, PlainFrame, IsFrameOf, IsFirstFault}
use Rattle.snx_lines.specs.declared.columns.Line.{Line}
use Rattle.snx_lines.specs.declared.blocks.Block.{Block}
use Rattle.snx_lines.specs.declared.blocks.Framing.{Framing}
use Rattle.snx_lines.specs.declared.blocks.Frame.{Frame}
use Rattle.snx_lines.specs.declared.blocks.FrameError.{FrameError}
use Rattle.snx_lines.specs.declared.blocks.FrameError.TheVariants.{Fault, Memory}

abbrev pub line_view : Line → PlainLine
line_view line = record { number = line.number; kind = Some line.kind; text = line.text.now }

abbrev pub block_view : Block → PlainBlock
block_view block = record { name = block.name.now; title = line_view block.title; body = map line_view block.body.items }

abbrev pub framing_view : Framing → PlainFraming
framing_view framing = record { blocks = map block_view framing.blocks.items; stop = framing.stop }

abbrev pub frame_view : Frame → PlainFrame
frame_view frame = record { header = line_view frame.header; blocks = map block_view frame.blocks.items }

-- what is framed of these lines: the frame that they have, or their first bad line. Want of memory may come in the place of either
abbrev pub Frames : List PlainLine → Result Frame FrameError → Type 0
Frames lines (Ok frame) = IsFrameOf lines (frame_view frame)
Frames lines (Err (Fault fault)) = IsFirstFault lines fault
Frames lines (Err Memory) = Unit {0}
