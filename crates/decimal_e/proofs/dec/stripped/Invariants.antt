use Rattle.std.proofs.Common.{◌≡◌, ◌*◌, ◌^◌, ◌<◌, ◌≤◌}
use Rattle.decimal_e.proofs.dec.stripped.Given as goal

-- the zeros taken off so far, put back
abbrev pub invariant-loop-rest : goal.invariant-loop-rest
invariant-loop-rest l = record { whole : l.rest * 10 ^ l.zeros ≡ l.size; some : 0 < l.rest; few : l.zeros ≤ 38 }

abbrev pub decreases-loop-rest : goal.decreases-loop-rest
decreases-loop-rest l = l.rest
