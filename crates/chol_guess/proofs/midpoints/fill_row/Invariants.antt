use Rattle.std.proofs.Common.{◌≡◌, ◌<◌, ◌^◌, ℕ}
use Rattle.whole_numbers.specs.Lists.{AllAtMost}
use Rattle.whole_numbers.specs.Squares.{square_at}
use Rattle.chol_guess.specs.Midpoints.{midpoints, HasRows}
use Rattle.chol_guess.proofs.midpoints.fill_row.Given as goal

abbrev pub invariant-loop-k : goal.invariant-loop-k
invariant-loop-k g l = record {
  same : l.s.size ≡ l.w.a.size;
  small : AllAtMost (2 ^ 61) l.s.numbers;
  before : HasRows l.i l.w.a l.s;
  here : (c : ℕ) → c < l.k → square_at l.s l.i c ≡ midpoints l.w.a l.i c;
}
