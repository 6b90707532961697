use Rattle.std.proofs.Common.{◌≡◌, ◌^◌}
use Rattle.whole_numbers.specs.Squares.{square_at}
use Rattle.whole_numbers.specs.Lists.{AllAtMost}
use Rattle.chol_guess.specs.Rows.{PlacesColumns}
use Rattle.chol_guess.proofs.scales.place_columns.Given as goal

abbrev pub invariant-loop-c : goal.invariant-loop-c
invariant-loop-c l = record {
  columns : PlacesColumns l.f.size (square_at l.f) l.g l.r l.c;
  size : l.r.size ≡ l.f.size;
  small : AllAtMost (2 ^ 50) l.r.numbers;
}
