use Rattle.std.proofs.Common.{◌<◌, ◌∙◌, refl, arith}
use Rattle.named_tables.specs.declared.faults.RecoverFault.TheVariants.{Range}
use Rattle.information_tables.proofs.RowLaws.{row_next, row_unfit, weighted_whole}
use Rattle.information_tables.proofs.weights.weigh.Goals as goal

pub returns-in-Some-clause-refused : goal.returns-in-Some-clause-refused
returns-in-Some-clause-refused g c =
    let done = c.loop-row.invariant in
    let within : c.loop-row.row < c.args.table.now.size = omega (arith, c.size-row-end.ensures.value) in (
      Range c.at.result.now c.at-in-Some.result.now,
      refl,
      row_unfit c.args.weight.now c.loop-row.row c.args.table.now c.loop-row.table c.weigh_row.new.table within done.size (record { fits = done.fits; done = done.done; left = done.left }) c.args.names.now c.in-Some.col c.at.result.now c.at-in-Some.result.now
          c.requires.size c.in-Some.ensures.first c.at.ensures c.at-in-Some.ensures,
    )

pub loop-row-preserved : goal.loop-row-preserved
loop-row-preserved g c =
    let done = c.loop-row.invariant in
    let within : c.loop-row.row < c.args.table.now.size = omega (arith, c.size-row-end.ensures.value) in
    let next = row_next c.args.weight.now c.loop-row.row c.args.table.now c.loop-row.table c.weigh_row.new.table within done.size (record { fits = done.fits; done = done.done; left = done.left }) c.in_default.ensures.first in
    record { size = c.weigh_row.ensures.size ∙ done.size; whole = c.weigh_row.ensures.whole; fits = next.fits; done = next.done; left = next.left }

pub returns-clause-weighted : goal.returns-clause-weighted
returns-clause-weighted g c =
    let done = c.loop-row.invariant in (
      weighted_whole c.args.weight.now c.args.table.now c.loop-row.table done.size done.whole (λ i j l low. done.done i j (omega (arith, c.size-row-end.ensures.value)) low),
      λ i j l low. done.fits i j (omega (arith, c.size-row-end.ensures.value, c.requires.size)) low,
    )
