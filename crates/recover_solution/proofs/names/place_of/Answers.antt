use Rattle.std.proofs.Common.{◌∙◌, sym, arith}
use Rattle.recover_solution.proofs.EstimateLaws.{none_before, first_place, no_place}
use Rattle.recover_solution.proofs.names.place_of.Goals as goal

pub returns-then-is_row_of : goal.returns-then-is_row_of
returns-then-is_row_of c = first_place c.args.rows.now c.args.id.now c.loop-place.place c.index-rows-place.result (omega arith) c.index-rows-place.is c.loop-place.invariant (sym c.is_row_of.ensures ∙ c.if-is_row_of.true)

pub loop-place-preserved : goal.loop-place-preserved
loop-place-preserved c = none_before c.args.rows.now c.args.id.now c.loop-place.place c.index-rows-place.result (omega arith) c.index-rows-place.is c.loop-place.invariant (sym c.is_row_of.ensures ∙ c.if-is_row_of.false)

pub returns : goal.returns
returns c = no_place c.args.rows.now c.args.id.now (λ j d l. c.loop-place.invariant j d (omega arith))
