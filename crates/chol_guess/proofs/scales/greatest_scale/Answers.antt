use Rattle.whole_numbers.specs.Squares.{square_at}
use Rattle.chol_guess.proofs.Placed.{next_scale, fail_next}
use Rattle.chol_guess.proofs.scales.greatest_scale.Goals as goal

pub scales-preserved : goal.scales-preserved
scales-preserved c = record {
  scale = next_scale c.scales.g c.scales.invariant.scale c.if-g-eq0.false;
  greater = fail_next c.args.f.now.size (square_at c.args.f.now) c.scales.g c.in-Some.col c.scales.invariant.scale c.in-Some.ensures.first c.scales.invariant.greater;
  size = c.place_columns.ensures.size;
  small = c.place_columns.ensures.small;
}
