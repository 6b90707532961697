use Rattle.std.proofs.Common.{◌∙◌, sym, ap, arith}
use Rattle.named_tables.specs.Naming.{matched_in}
use Rattle.named_tables.proofs.NameLaws.{first_here, none_more}
use Rattle.recover_solution.specs.Views.{solution_view}
use Rattle.recover_solution.proofs.EstimateLaws.{lacking, place_item}
use Rattle.recover_solution.proofs.names.estimated.Goals as goal

pub returns-then-is_lacking : goal.returns-then-is_lacking
returns-then-is_lacking c =
    let solution = solution_view c.args.solution.now in
    let row = c.index-rows-place.result in
    let place = place_item solution.apriori c.loop-place.place row c.requires.apriori.names (omega arith) c.index-rows-place.is in
    sym (ap matched_in (first_here (lacking solution) solution.apriori c.loop-place.place row (omega arith) c.index-rows-place.is c.loop-place.invariant
    (sym (c.is_lacking.ensures solution.apriori solution.estimates place c.requires.names) ∙ c.if-is_lacking.true)))

pub loop-place-preserved : goal.loop-place-preserved
loop-place-preserved c =
    let solution = solution_view c.args.solution.now in
    let row = c.index-rows-place.result in
    let place = place_item solution.apriori c.loop-place.place row c.requires.apriori.names (omega arith) c.index-rows-place.is in
    none_more (lacking solution) solution.apriori c.loop-place.place row (omega arith) c.index-rows-place.is c.loop-place.invariant
    (sym (c.is_lacking.ensures solution.apriori solution.estimates place c.requires.names) ∙ c.if-is_lacking.false)
