use Rattle.std.proofs.Common.{◌≡◌, ◌-◌, ◌*◌, ◌≤◌, ◌^◌, unsigned_abs}
use Rattle.inverse_squares.proofs.division.tens_for.Given as goal

-- the number with its tens so far
abbrev pub invariant-loop-tens : goal.invariant-loop-tens
invariant-loop-tens l = record { whole : l.raised ≡ unsigned_abs l.h * 10 ^ l.tens; few : l.tens ≤ l.most; within : l.raised ≤ 10 ^ 37 }

abbrev pub decreases-loop-tens : goal.decreases-loop-tens
decreases-loop-tens l = l.most - l.tens
