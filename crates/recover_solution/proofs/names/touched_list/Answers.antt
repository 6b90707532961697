use Rattle.std.proofs.Common.{◌∙◌, sym, ap}
use Rattle.std.specs.List.{list_any}
use Rattle.recover_solution.specs.Solutions.{touches, is_touched}
use Rattle.recover_solution.proofs.TouchedLaws.{taken_more, left_more}
use Rattle.recover_solution.proofs.names.touched_list.Goals as goal
use Rattle.recover_solution.proofs.names.touched_list.Goals.{then-is_touched+in_ok-push, else-is_touched}

pub loop-place-preserved : goal.loop-place-preserved
loop-place-preserved c =
    let p = is_touched c.args.apriori.now c.args.cells.now in
    let names = c.args.names.now in
    let test = sym (c.is_touched.ensures ∙ ap (λ k. list_any (touches k) c.args.cells.now) c.place_of.ensures) in
    elim c.if-is_touched.branch [
      | then-is_touched+in_ok-push w ↦ rw w.list-is (taken_more p names c.loop-place.place c.at-id.result.now c.at-id.ensures c.loop-place.list.items w.push.new.self.items c.loop-place.invariant (test ∙ w.if-is_touched.true) w.in_ok-push.ensures.items)
      | else-is_touched w ↦ rw w.list-is (left_more p names c.loop-place.place c.at-id.result.now c.at-id.ensures c.loop-place.list.items c.loop-place.invariant (test ∙ w.if-is_touched.false))
    ]
