use Rattle.std.proofs.Common.{◌≡◌, ◌^◌}
use Rattle.whole_numbers.specs.Squares.{square_at}
use Rattle.whole_numbers.specs.Lists.{AllAtMost}
use Rattle.enclosures.specs.Pilots.{IsPilotScale}
use Rattle.chol_guess.specs.Rows.{FailAbove}
use Rattle.chol_guess.proofs.scales.greatest_scale.Given as goal

abbrev pub invariant-scales : goal.invariant-scales
invariant-scales l = record {
  scale : IsPilotScale l.g;
  greater : FailAbove l.f.size (square_at l.f) l.g;
  size : l.r.size ≡ l.f.size;
  small : AllAtMost (2 ^ 50) l.r.numbers;
}

abbrev pub decreases-scales : goal.decreases-scales
decreases-scales l = l.g
