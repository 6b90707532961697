use Rattle.std.proofs.Common.{◌≡◌, ◌≤◌, ◌++◌, IsTrue, Some, length}
use Rattle.desk_io.specs.Content.{File, KeepsAll}
use Rattle.desk_io.proofs.whole.read_all.Given as goal

-- no call failed, so many turns have taken at least so many bytes, and the file is what was read and what is left
abbrev pub invariant-loop-turn : goal.invariant-loop-turn
invariant-loop-turn g l = record {
  opened : IsTrue (g.D.Desk.facts l.desk).opened;
  taken : (g.D.Desk.facts l.desk).taken ≡ length l.text.items;
  within : length l.text.items ≤ l.limit;
  turns : l.turn ≤ length l.text.items;
  piece : length l.piece.items ≡ 65536;
  writing : (g.D.Desk.facts l.desk).writing ≡ (g.D.Desk.facts l.fn.desk).writing;
  unchanged : g.D.Desk.faults l.desk ≡ g.D.Desk.faults l.fn.desk;
  keeps : IsTrue g.D.Desk.tells → KeepsAll (g.D.Desk.content l.fn.desk) (g.D.Desk.content l.desk);
  file : IsTrue g.D.Desk.tells → (file : File) × ((g.D.Desk.content l.fn.desk).files l.name ≡ Some file)
      × (file.bytes ≡ l.text.items ++ (g.D.Desk.content l.desk).left);
}
