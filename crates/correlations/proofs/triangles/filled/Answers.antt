use Rattle.std.proofs.Common.{◌∙◌, arith}
use Rattle.correlations.proofs.PlaceLaws.{none_at, rows_fit, rows_more, some_at}
use Rattle.correlations.proofs.triangles.filled.Goals as goal

pub returns-then-is_none-clause-here : goal.returns-then-is_none-clause-here
returns-then-is_none-clause-here g c = record {
  within = omega (arith, c.loop-row-test.true, c.size-row-end.ensures.value);
  rows = rows_fit c.args.given.now c.args.deviations.now c.args.exponents.now c.loop-row.row c.loop-row.table c.loop-row.invariant.rows;
  none = none_at c.args.deviations.now c.loop-row.row c.index-deviations-row.result (omega (arith, c.loop-row-test.true, c.size-row-end.ensures.value, c.requires.deviations)) c.index-deviations-row.is (c.if-is_none.ensures);
}

pub returns-in-Some-clause-here : goal.returns-in-Some-clause-here
returns-in-Some-clause-here g c = record {
  within = omega (arith, c.loop-row-test.true, c.size-row-end.ensures.value);
  lower = let w = c.in-Some.ensures.here.within in omega arith;
  rows = rows_fit c.args.given.now c.args.deviations.now c.args.exponents.now c.loop-row.row c.loop-row.table c.loop-row.invariant.rows;
  deviation = some_at c.args.given.now c.args.deviations.now c.args.exponents.now c.loop-row.row c.index-deviations-row.result (omega (arith, c.loop-row-test.true, c.size-row-end.ensures.value, c.requires.deviations)) c.index-deviations-row.is (c.if-is_none.ensures);
  left = c.in-Some.ensures.here.before;
  fails = c.in-Some.ensures.here.fails;
}

pub loop-row-preserved : goal.loop-row-preserved
loop-row-preserved g c = record {
  size = c.filled_row.ensures.size ∙ c.loop-row.invariant.size;
  whole = c.filled_row.ensures.whole;
  rows = rows_more c.args.given.now c.args.deviations.now c.args.exponents.now c.loop-row.row c.loop-row.table c.filled_row.new.table c.loop-row.invariant.rows c.filled_row.ensures.others c.in_default.ensures.here;
}
