use Rattle.std.proofs.Common.{◌≡◌, ◌*◌, ◌<◌, ◌^◌, Bor, map, length, ap, subst, arith}
use Rattle.std.proofs.lemmas.List.{length-map}
use Rattle.neq_stack.specs.Neqs.{neq_view}
use Rattle.neq_stack.specs.declared.Neq.{Neq}
use Rattle.combine_cli.proofs.stacking.stack_of_stacks.Goals as goal

pub stack_all-requires : goal.stack_all-requires
stack_all-requires c =
    let stacks = c.args.stacks.now in
    let neqs = c.in_ok-neqs.neqs.items in
    let as_many = length-map neqs (λ (neq : Bor (Neq 16)). neq_view neq.now) in
    let same : length stacks ≡ length neqs = omega (arith, length-map stacks neq_view, as_many, ap length c.in_ok-neqs.ensures) in
    let fit = c.requires.fit in
    rw (c.deref.ensures.value, c.in_ok-neqs.ensures) (omega arith, (c.requires.sound, (c.requires.agree, (fit.0, fit.1, subst (λ n. n * fit.0 < 10 ^ 38) same fit.2))))

pub returns-in-Ok-clause-stacked : goal.returns-in-Ok-clause-stacked
returns-in-Ok-clause-stacked c = rw (c.deref.ensures.value, c.in_ok-neqs.ensures) at c.in-Ok.ensures.stacked
