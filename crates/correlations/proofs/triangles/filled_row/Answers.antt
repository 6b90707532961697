use Rattle.std.proofs.Common.{◌∙◌, arith}
use Rattle.correlations.proofs.PlaceLaws.{fits_each, not_above, not_before, row_more}
use Rattle.correlations.proofs.triangles.filled_row.Goals as goal

pub returns-in-None-clause-here : goal.returns-in-None-clause-here
returns-in-None-clause-here g c = record {
  within = c.loop-col-test.true;
  before = fits_each c.args.given.now c.args.deviations.now c.args.exponents.now c.loop-col.col c.args.row c.loop-col.table c.loop-col.invariant.row;
  fails = c.in-None.ensures;
}

pub loop-col-preserved : goal.loop-col-preserved
loop-col-preserved g c =
    let row = c.args.row in
    let col = c.loop-col.col in
    let sized = c.loop-col.invariant.size in
    let here = c.requires.row in
    let test = c.loop-col-test.true in
    record {
      size = c.set.ensures.size ∙ sized;
      whole = c.set.ensures.whole;
      others = λ k j low lower. c.set.ensures.others k j (omega arith) (omega arith) (not_above row col k j low lower) ∙ c.loop-col.invariant.others k j low lower;
      row = row_more c.args.given.now c.args.deviations.now c.args.exponents.now row col c.loop-col.table c.set.new.self c.in-Some.entry (omega arith) c.set.ensures.here (λ l low. c.set.ensures.others row l (omega arith) (omega arith) (not_before row col l low)) c.loop-col.invariant.row c.in-Some.ensures;
    }
