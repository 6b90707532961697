use Rattle.std.proofs.Common.{◌≡◌, ◌+◌, length, map}
use Rattle.bstr.specs.Text.{lines_of, without_terminator}
use Rattle.snx_lines.specs.Lines.{lines_in}
use Rattle.snx_lines.specs.Passing.{state_view}
use Rattle.snx_lines.proofs.Passed.{SoFar}
use Rattle.snx_lines.proofs.passing.framing.Given as goal

-- the lines so far are described, and none is lost
abbrev pub invariant-loop-line : goal.invariant-loop-line
invariant-loop-line l = record {
  so_far : SoFar (lines_in l.fn.text) (state_view l.framer) l.line-iterator;
  number : l.framer.number + length l.line-iterator ≡ length (map without_terminator (lines_of l.fn.text));
}
