use Rattle.std.proofs.Common.{◌≡◌, ◌∙◌, Err, Ok, map, string_bytes, ap, subst, arith}
use Rattle.difference_products.specs.Products.{Place}
use Rattle.neq_stack.specs.Neqs.{PlainNeq, neq_view}
use Rattle.apriori_shift.specs.Answers.{common_value}
use Rattle.apriori_shift.specs.Shifts.{IsShift}
use Rattle.combine_cli.specs.Causes.{refusal_of_shift}
use Rattle.file_recovery.proofs.KnownLaws.{at_most_weaker}
use Rattle.combine_cli.proofs.ShiftedParts.{first_values, common_small, range_told}
use Rattle.combine_cli.proofs.parts.shifted.Goals as goal

pub shift-requires : goal.shift-requires
shift-requires c = (omega arith, (c.requires.sound, (at_most_weaker _ _ _ (omega arith) c.requires.modest, common_small c.args.base.now c.args.neq.now.names c.requires.small)))

pub returns-in-Ok-clause-shifts : goal.returns-in-Ok-clause-shifts
returns-in-Ok-clause-shifts c = λ rows first.
    subst (λ values. IsShift values (neq_view c.args.neq.now) (Ok (neq_view c.shift.new.neq))) (first_values c.args.base.now rows c.args.neq.now.names first) c.in-Ok.ensures.shifted

pub returns-in_ok-name-in-Err-Range-clause-refused : goal.returns-in_ok-name-in-Err-Range-clause-refused
returns-in_ok-name-in-Err-Range-clause-refused c = λ rows first a b.
    let neq = neq_view c.args.neq.now in
    let place : Place = record { row = c.in-Err-Range.row; col = c.in-Err-Range.col } in
    let names : c.shift.new.neq.names ≡ c.args.neq.now.names = ap (λ (n : PlainNeq). n.names) c.in-Err-Range.ensures.unchanged in
    let there = range_told (λ place. IsShift (map (common_value c.args.base.now) c.args.neq.now.names) neq (Err place)) c.in-Err-Range.field-0 c.in-Err-Range.row c.in-Err-Range.col c.in-Err-Range.field-0-is c.in-Err-Range.ensures.range in (
      place,
      subst (λ values. IsShift values neq (Err place)) (first_values c.args.base.now rows c.args.neq.now.names first) there,
      c.refusal_of_shift.ensures.told ∙ ap (λ n. refusal_of_shift n c.shift.new.neq.names place) (c.in_ok-name-in-Err-Range.ensures.name ∙ c.as_str.ensures.value)
          ∙ ap (λ l. refusal_of_shift (string_bytes c.args.plan.now.name) l place) names,
    )
