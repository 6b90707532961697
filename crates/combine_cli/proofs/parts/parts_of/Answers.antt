use Rattle.std.proofs.Common.{◌≡◌, ◌++◌, ◌∷◌, [], List, length, map, take, Ok, sym, subst}
use Rattle.std.proofs.lemmas.Iterator.Adapters.{YieldsList-from_vec}
use Rattle.std.proofs.lemmas.Iterator.Consumers.{YieldsList-turn}
use Rattle.std.proofs.lemmas.List.{length_push}
use Rattle.std.proofs.lemmas.Result.{err_from_is_err_and}
use Rattle.stated_order.specs.Lists.{AreEach}
use Rattle.snx_rows.specs.declared.rows.Row.{Row}
use Rattle.apriori_shift.specs.Answers.{HasFirstRows}
use Rattle.control_doc.specs.Valid.{IsPositiveAndShort}
use Rattle.run_inputs.specs.Views.{input_view}
use Rattle.run_inputs.specs.declared.inputs.Input.{Input}
use Rattle.combine_cli.specs.Combination.{IsPart, AreParts}
use Rattle.combine_cli.specs.Parts.{part_view, IsPartOf}
use Rattle.combine_cli.proofs.PartLaws.{pushed_whole, part_more, known_more}
use Rattle.combine_cli.proofs.TurnLaws.{turn_stops}
use Rattle.combine_cli.proofs.parts.parts_of.Goals as goal
use Rattle.combine_cli.proofs.parts.parts_of.Given.{Over}
use Rattle.combine_cli.proofs.parts.parts_of.Goals.{Else-is_err}

pub part_of-requires-clause-weight : goal.part_of-requires-clause-weight
part_of-requires-clause-weight g c κs within =
    let items = c.args.inputs.items in
    let given = YieldsList-from_vec {s = c.into_iter-input-iterator.result} items (cc) (cc) in
    let t = YieldsList-turn given c.loop-input.yielded c.loop-input.input-iterator c.loop-input.yielded_by c.next.result c.next.new.self c.in-Some.input c.in-Some.is c.next.ensures.steps in
    subst (λ (input : Input). IsPositiveAndShort (input_view input).plan.weight) (sym t.1) (c.requires.weights (length c.loop-input.yielded) c.in-Some.input t.0)

pub returns-in_err-part-clause-refused : goal.returns-in_err-part-clause-refused
returns-in_err-part-clause-refused g c = λ rows first.
    let p = err_from_is_err_and c.from_residual.result c.from_residual.ensures.1 in
    let items = c.args.inputs.items in
    let given = YieldsList-from_vec {s = c.into_iter-input-iterator.result} items (cc) (cc) in
    let t = YieldsList-turn given c.loop-input.yielded c.loop-input.input-iterator c.loop-input.yielded_by c.next.result c.next.new.self c.in-Some.input c.in-Some.is c.next.ensures.steps in
    rw (p.1, p.2) (λ a b.
    turn_stops input_view items (length c.loop-input.yielded) c.in-Some.input t.0 t.1 (IsPart c.args.scales.now rows) (map part_view c.loop-input.parts.items) _ (c.loop-input.invariant.so_far rows first)
    (c.in_err-part.ensures.refused rows first a b))

-- one more part
pushed : (g : Over) (c : Else-is_err g) → c.push.new.self.items ≡ c.loop-input.parts.items ++ c.in_ok-part.part ∷ []
pushed g c = pushed_whole c.push.result _ _ _ (sym c.if-is_err.ensures.value) c.push.ensures.items

one_more : (g : Over) (c : Else-is_err g) (rows : List Row) → HasFirstRows c.args.base.now rows
    → AreParts c.args.scales.now rows (map input_view (take (length (c.loop-input.yielded ++ c.in-Some.input ∷ [])) c.args.inputs.items)) (Ok (map part_view c.push.new.self.items))
    × AreEach (IsPartOf c.args.scales.now rows) (map input_view (take (length (c.loop-input.yielded ++ c.in-Some.input ∷ [])) c.args.inputs.items)) (map part_view c.push.new.self.items)
one_more g c rows first =
    let items = c.args.inputs.items in
    let given = YieldsList-from_vec {s = c.into_iter-input-iterator.result} items (cc) (cc) in
    let t = YieldsList-turn given c.loop-input.yielded c.loop-input.input-iterator c.loop-input.yielded_by c.next.result c.next.new.self c.in-Some.input c.in-Some.is c.next.ensures.steps in
    let i = length c.loop-input.yielded in
    let parts = c.loop-input.parts.items in
    let part = c.in_ok-part.part in
    let scales = c.args.scales.now in
    let long = length_push c.loop-input.yielded c.in-Some.input in (
      part_more input_view part_view scales rows items i _ c.in-Some.input parts c.push.new.self.items part t.0 t.1 long (pushed g c) (c.loop-input.invariant.so_far rows first) (c.in_ok-part.ensures.part rows first),
      known_more input_view part_view scales rows items i _ c.in-Some.input parts c.push.new.self.items part t.0 t.1 long (pushed g c) (c.loop-input.invariant.each rows first) (c.in_ok-part.ensures.known rows first),
    )

pub loop-input-preserved-else-is_err : goal.loop-input-preserved-else-is_err
loop-input-preserved-else-is_err g c = let at = (goal.at.loop-input-preserved-else-is_err g c).Else-is_err in record { so_far = λ rows first. (one_more g at rows first).0; each = λ rows first. (one_more g at rows first).1 }

pub loop-input-preserved : goal.loop-input-preserved
loop-input-preserved g c = let at = (goal.at.loop-input-preserved g c).Else-is_err in record { so_far = λ rows first. (one_more g at rows first).0; each = λ rows first. (one_more g at rows first).1 }
