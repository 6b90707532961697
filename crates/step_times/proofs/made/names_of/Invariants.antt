use Rattle.std.proofs.Common.{◌≡◌, vec_len}
use Rattle.step_times.proofs.made.names_of.Given as goal

abbrev pub invariant-loop-k : goal.invariant-loop-k
invariant-loop-k l = vec_len l.ids ≡ l.k
