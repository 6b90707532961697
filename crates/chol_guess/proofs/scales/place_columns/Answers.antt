use Rattle.std.proofs.Common.{arith}
use Rattle.whole_numbers.specs.Squares.{square_at}
use Rattle.chol_guess.proofs.Placed.{first_failing, placed_more}
use Rattle.chol_guess.proofs.scales.place_columns.Goals as goal

pub returns-then-not-place_column-clause-first : goal.returns-then-not-place_column-clause-first
returns-then-not-place_column-clause-first c =
    first_failing c.args.f.now.size (square_at c.args.f.now) c.args.g c.loop-c.r c.loop-c.c (omega arith) c.loop-c.invariant.columns c.if-not-place_column.ensures.none

pub loop-c-preserved : goal.loop-c-preserved
loop-c-preserved c = record {
  columns = placed_more c.args.f.now.size (square_at c.args.f.now) c.args.g c.loop-c.r c.place_column.new.r c.loop-c.c (omega arith) c.loop-c.invariant.columns c.place_column.ensures.others c.if-not-place_column.ensures.column;
  size = c.place_column.ensures.size;
  small = c.place_column.ensures.small;
}
