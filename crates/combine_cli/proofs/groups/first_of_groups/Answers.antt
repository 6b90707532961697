use Rattle.std.proofs.Common.{◌≡◌, Bor, map, take, ap, sym, ◌∙◌, rules, arith}
use Rattle.std.proofs.lemmas.Fn.{dedup_same}
use Rattle.std.proofs.lemmas.List.{take_all}
use Rattle.std.proofs.lemmas.Simd.{map-map}
use Rattle.control_doc.specs.Plain.{PlainPlan}
use Rattle.control_doc.specs.Views.{plan_view}
use Rattle.control_doc.specs.declared.plans.FilePlan.{FilePlan}
use Rattle.combine_cli.specs.Combination.{Part}
use Rattle.combine_cli.specs.Parts.{part_view}
use Rattle.combine_cli.specs.declared.parts.FilePart.{FilePart}
use Rattle.combine_cli.proofs.GroupSorts.{same, sorted_by, groups_from}
use Rattle.combine_cli.proofs.groups.first_of_groups.Goals as goal

abbrev plan_at : Bor FilePlan → PlainPlan
plan_at plan = plan_view plan.now

pub returns-clause-groups : goal.returns-clause-groups
returns-clause-groups c =
    let parts = c.args.parts.now in
    let all : take c.loop-part.part-index parts ≡ parts = take_all c.loop-part.part-index parts (omega arith) in
    let listed = c.loop-part.invariant ∙ ap (map (λ (part : FilePart). plan_view part.plan.now)) all ∙ sym (map-map (λ (part : Part). part.plan) part_view parts) in
    let sorted = c.sort_unstable_by.new.self.items in
    let kept = dedup_same _ (same plan_at) _ (λ x y b f' x' y' k. search rules) _ _ c.dedup_by.ensures.filtered in
    groups_from plan_at c.loop-part.plans.items sorted c.dedup_by.new.self.items c.sort_unstable_by.ensures.permutation kept (map (λ (part : Part). part.plan) (map part_view parts)) listed
    (sorted_by plan_at sorted c.sort_unstable_by.ensures.sorted (λ a r f' k. search rules))
