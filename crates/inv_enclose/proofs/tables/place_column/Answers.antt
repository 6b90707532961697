use Rattle.std.proofs.Common.{◌∙◌, arith}
use Rattle.equil.specs.Tables.{exponent_of}
use Rattle.inv_enclose.specs.Parts.{column_of}
use Rattle.inv_enclose.proofs.PlaceLaws.{left_stays, placed}
use Rattle.inv_enclose.proofs.tables.place_column.Goals as goal

pub loop-row-preserved : goal.loop-row-preserved
loop-row-preserved g c =
    let table = c.loop-row.table in
    let new = c.set.new.self in
    let size = c.loop-row.invariant.size in
    let end = c.size-row-end.ensures.value in
    let lower = c.loop-row.auto.row in
    record {
      size = c.set.ensures.size ∙ size;
      whole = c.set.ensures.whole;
      shown = placed c.loop-row.row c.args.col table new _ (omega arith) (omega arith) c.set.ensures.here c.set.ensures.others _ (exponent_of c.args.exponents.now) (column_of c.args.column.now) c.shown_at-interval.ensures c.loop-row.invariant.shown;
      others = λ i j row left. left_stays c.loop-row.row c.args.col table new _ (omega arith) (omega arith) c.set.ensures.here c.set.ensures.others i j (omega arith) left ∙ c.loop-row.invariant.others i j row left;
    }
