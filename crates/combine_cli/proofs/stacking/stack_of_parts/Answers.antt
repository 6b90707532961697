use Rattle.std.proofs.Common.{◌≤◌, ◌<◌, ◌*◌, ◌^◌, ℕ, Bor, List, map, length, Ok, ap, arith, sym, subst}
use Rattle.std.specs.Prelude.{All}
use Rattle.std.proofs.lemmas.List.{length-map}
use Rattle.std.proofs.lemmas.Result.{err_from_is_err_and}
use Rattle.stated_order.proofs.StepLaws.{then_stops}
use Rattle.control_doc.specs.Views.{plan_view}
use Rattle.control_doc.specs.declared.plans.FilePlan.{FilePlan}
use Rattle.neq_stack.specs.ByName.{AreAtMost}
use Rattle.neq_stack.specs.Neqs.{neq_view}
use Rattle.neq_stack.specs.declared.Neq.{Neq}
use Rattle.combine_cli.specs.Combination.{Group, group_of, AreGroupStacks, IsWholeStack}
use Rattle.combine_cli.specs.Parts.{part_view}
use Rattle.combine_cli.proofs.AlikeLaws.{whole_is_of_parts}
use Rattle.combine_cli.proofs.GroupStacks.{stacks_sound, stacks_agree, parts_stack}
use Rattle.combine_cli.proofs.StackBounds.{stacks_fit, whole_modest}
use Rattle.combine_cli.proofs.stacking.stack_of_parts.Goals as goal

abbrev group_at : Bor FilePlan → Group
group_at plan = group_of (plan_view plan.now)

pub stack_of_stacks-requires-clause-sound : goal.stack_of_stacks-requires-clause-sound
stack_of_stacks-requires-clause-sound c =
    rw c.deref-2.ensures.value
    (stacks_sound (map part_view c.args.parts.now) (map group_at c.in_ok-plans.plans.items) (map neq_view c.in_ok-stacks.stacks.items) (rw c.deref.ensures.value at c.in_ok-stacks.ensures.stacked))

pub stack_of_stacks-requires-clause-agree : goal.stack_of_stacks-requires-clause-agree
stack_of_stacks-requires-clause-agree c =
    rw c.deref-2.ensures.value
    (stacks_agree (map part_view c.args.parts.now) (map group_at c.in_ok-plans.plans.items) (map neq_view c.in_ok-stacks.stacks.items) (rw c.deref.ensures.value at c.in_ok-stacks.ensures.stacked) c.requires.agree)

pub stack_of_stacks-requires-clause-fit : goal.stack_of_stacks-requires-clause-fit
stack_of_stacks-requires-clause-fit c =
    let parts = map part_view c.args.parts.now in
    let plans = c.in_ok-plans.plans.items in
    let stacks = c.in_ok-stacks.stacks.items in
    let long = length-map c.args.parts.now part_view in
    let fit =
    stacks_fit parts (map group_at plans) (map neq_view stacks) c.in_ok-plans.ensures.groups (rw c.deref.ensures.value at c.in_ok-stacks.ensures.stacked) c.requires.modest
    (omega (arith, long, length-map plans group_at, c.in_ok-plans.ensures.few)) (omega (arith, long)) in
    subst (λ (l : List (Neq 16)). (most : ℕ) × All (AreAtMost most) (map neq_view l) × (length l * most < 10 ^ 38)) (sym c.deref-2.ensures.value)
    (fit.0, fit.1, subst (λ n. n * fit.0 < 10 ^ 38) (length-map stacks neq_view) fit.2)

pub returns-in_err-stacks-clause-refused : goal.returns-in_err-stacks-clause-refused
returns-in_err-stacks-clause-refused c =
    let p = err_from_is_err_and c.from_residual-in_err-stacks.result c.from_residual-in_err-stacks.ensures.1 in
    let parts = map part_view c.args.parts.now in
    let groups = map group_at c.in_ok-plans.plans.items in
    rw (p.1, p.2) (λ a b. (groups, c.in_ok-plans.ensures.groups, then_stops (AreGroupStacks parts groups) IsWholeStack _ (rw c.deref.ensures.value at (c.in_err-stacks.ensures.refused a b))))

pub returns-clause-whole : goal.returns-clause-whole
returns-clause-whole c =
    let parts = map part_view c.args.parts.now in
    let neq = neq_view c.in_ok-neq.neq in
    whole_is_of_parts parts neq
    (parts_stack parts (map group_at c.in_ok-plans.plans.items) (map neq_view c.in_ok-stacks.stacks.items) (Ok neq) c.in_ok-plans.ensures.groups (rw c.deref.ensures.value at c.in_ok-stacks.ensures.stacked)
    (rw c.deref-2.ensures.value at c.in_ok-neq.ensures.stacked))

pub returns-clause-sound : goal.returns-clause-sound
returns-clause-sound c = let whole = returns-clause-whole c in whole.sound

pub returns-clause-modest : goal.returns-clause-modest
returns-clause-modest c =
    let few : length (map part_view c.args.parts.now) ≤ 64 = omega (arith, length-map c.args.parts.now part_view) in
    whole_modest (map part_view c.args.parts.now) (neq_view c.in_ok-neq.neq) c.requires.modest few (returns-clause-whole c)
