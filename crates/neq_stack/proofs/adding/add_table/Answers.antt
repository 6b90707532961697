use Rattle.std.proofs.Common.{◌<◌, ◌∙◌, arith}
use Rattle.neq_stack.specs.Joining.{entry_by}
use Rattle.neq_stack.proofs.AddLaws.{one_more_row}
use Rattle.neq_stack.proofs.adding.add_table.Goals as goal

pub loop-row-preserved : goal.loop-row-preserved
loop-row-preserved g c =
    let within : c.loop-row.row < c.args.into.now.size = omega (arith, c.requires.lengths) in
    let rows = one_more_row c.loop-row.row c.args.into.now c.loop-row.into c.add_row.new.into (entry_by c.args.table.now c.args.places.now) within c.loop-row.invariant.done c.loop-row.invariant.left c.add_row.ensures.here
    (λ i j l h ne. c.add_row.ensures.others i j (omega (arith, c.loop-row.invariant.size)) h ne) in
    record {
      size = c.add_row.ensures.size ∙ c.loop-row.invariant.size;
      whole = c.add_row.ensures.whole;
      done = rows.done;
      left = rows.left;
    }
