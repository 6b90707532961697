use Rattle.std.proofs.Common.{◌≡◌, ◌≤◌, ◌*◌, ◌^◌}
use Rattle.chol_guess.specs.Midpoints.{midpoints}
use Rattle.dominant_laws.specs.Dominant.{off_diagonal_sum}
use Rattle.dominant_laws.proofs.rows.off_diagonals.Given as goal

abbrev pub invariant-loop-j : goal.invariant-loop-j
invariant-loop-j g l = (l.sum ≡ off_diagonal_sum l.j (midpoints l.w.a) l.i) × (l.sum ≤ l.j * 2 ^ 61)
