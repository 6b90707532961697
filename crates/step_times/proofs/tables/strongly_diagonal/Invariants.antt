use Rattle.std.proofs.Common.{◌≡◌}
use Rattle.step_times.proofs.tables.strongly_diagonal.Given as goal

abbrev pub invariant-loop-i : goal.invariant-loop-i
invariant-loop-i l = l.table.size ≡ l.n

abbrev pub invariant-loop-j : goal.invariant-loop-j
invariant-loop-j l = l.table.size ≡ l.n
