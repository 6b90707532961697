use Rattle.std.proofs.Common.{◌≡◌, ◌≤◌, ◌-◌, IsTrue, length, take, true}
use Rattle.desk_io.specs.Content.{with_writing}
use Rattle.desk_io.proofs.WholeFiles.{HasWritten}
use Rattle.desk_io.proofs.whole.write_file.Given as goal

-- the file holds what was written so far
abbrev pub invariant-loop-at : goal.invariant-loop-at
invariant-loop-at g l = record {
  within : l.at ≤ length l.text;
  facts : g.D.Desk.facts l.desk ≡ with_writing (g.D.Desk.facts l.fn.desk) true;
  unchanged : g.D.Desk.faults l.desk ≡ g.D.Desk.faults l.fn.desk;
  so_far : IsTrue g.D.Desk.tells → HasWritten l.name (take l.at l.text) (g.D.Desk.content l.fn.desk) (g.D.Desk.content l.desk);
}

abbrev pub decreases-loop-at : goal.decreases-loop-at
decreases-loop-at g l = length l.text - l.at
