use Rattle.std.proofs.Common.{◌∙◌, ◌<◌, arith, subst, sym}
use Rattle.whole_numbers.specs.Squares.{square_at}
use Rattle.chol_factor.specs.Factor.{IsColumn}
use Rattle.chol_factor.specs.Making.{AgreeBefore, IsStuck}
use Rattle.chol_factor.proofs.ColumnLaws.{IsRest, column_of, stuck_of, columns_more, pivot_at, positive_at}
use Rattle.chol_factor.proofs.columns.factor.Goals as goal

pub returns-then-not-make_column-clause-refused : goal.returns-then-not-make_column-clause-refused
returns-then-not-make_column-clause-refused c =
    let n = c.args.midpoints.size in
    let m = square_at c.args.midpoints in
    let old = square_at c.loop-row.square in
    let j = c.loop-row.row in
    let row : j < n = omega (arith, c.loop-row.invariant.same) in
    let rest : IsRest n m old j j = λ i h l. c.loop-row.invariant.waiting i j (omega arith) h l in
    pivot_at n m old j row c.loop-row.invariant.made (stuck_of n m old old j row rest (subst (λ s. IsStuck s old old j) c.loop-row.invariant.same c.if-not-make_column.ensures.stuck))

pub loop-row-preserved : goal.loop-row-preserved
loop-row-preserved c =
    let n = c.args.midpoints.size in
    let m = square_at c.args.midpoints in
    let old = square_at c.loop-row.square in
    let new = square_at c.make_column.new.f in
    let j = c.loop-row.row in
    let same = c.loop-row.invariant.same in
    let row : j < n = omega (arith, same) in
    let rest : IsRest n m old j j = λ i h l. c.loop-row.invariant.waiting i j (omega arith) h l in
    let kept = subst (λ s. AgreeBefore s old new j) same c.make_column.ensures.kept in
    let column = column_of n m old new j row rest (subst (λ s. IsColumn s old new j) same c.if-not-make_column.ensures.made) in
    record {
      same = omega (arith, c.make_column.ensures.size, same);
      small = c.make_column.ensures.bounded;
      made = columns_more n m old new j row c.loop-row.invariant.made kept column;
      waiting = λ i k h lower l. c.make_column.ensures.waiting i k h lower (omega (arith, same)) ∙ c.loop-row.invariant.waiting i k (omega arith) lower l;
    }

pub new-requires : goal.new-requires
new-requires c = record {
  small = c.loop-row.invariant.small;
  positive = λ i h. positive_at c.args.midpoints.size (square_at c.args.midpoints) (square_at c.loop-row.square) i (c.loop-row.invariant.made i (omega (arith, c.loop-row.invariant.same)));
}

pub returns-clause-columns : goal.returns-clause-columns
returns-clause-columns c = λ j h. subst (λ f. IsColumn c.args.midpoints.size (square_at c.args.midpoints) (square_at f) j) (sym c.new.ensures) (c.loop-row.invariant.made j (omega (arith, c.loop-row.invariant.same)))
