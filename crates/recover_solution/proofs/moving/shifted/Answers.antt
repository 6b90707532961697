use Rattle.std.proofs.Common.{◌≡◌, ◌^◌, ◌∙◌, All, Err, inr, refl, sym, ap, length, subst, arith}
use Rattle.std.proofs.lemmas.List.{length-map}
use Rattle.decimal_e.specs.Fractions.{IsAtMost}
use Rattle.snx_rows.specs.Named.{value_of}
use Rattle.difference_products.specs.Products.{Place}
use Rattle.neq_stack.specs.Neqs.{PlainNeq, neq_view}
use Rattle.neq_stack.specs.Systems.{name_at}
use Rattle.apriori_shift.specs.Shifts.{IsShift}
use Rattle.named_tables.specs.declared.faults.RecoverFault.TheVariants.{Range}
use Rattle.recover_solution.specs.Views.{solution_view}
use Rattle.recover_solution.proofs.MovingLaws.{at_most_weaker, modest_values, range_told}
use Rattle.recover_solution.proofs.moving.shifted.Goals as goal

pub shift_to-requires : goal.shift_to-requires
shift_to-requires g c =
    let rows = (solution_view c.args.solution.now).apriori in
    let names = c.args.neq.now.names in
    let values = c.in_ok-values.ensures in (
      omega arith,
      (
        c.requires.sound,
        (
          at_most_weaker _ _ _ (omega arith) c.requires.modest,
          (
            ap length values ∙ length-map names (value_of rows),
            subst (All (IsAtMost (10 ^ 12))) (sym values) (modest_values rows names c.requires.apriori),
          ),
        ),
      ),
    )

pub returns-in-Err-Range-clause-refused : goal.returns-in-Err-Range-clause-refused
returns-in-Err-Range-clause-refused g c =
    let rows = (solution_view c.args.solution.now).apriori in
    let neq = neq_view c.args.neq.now in
    let place : Place = record { row = c.in-Err-Range.row; col = c.in-Err-Range.col } in
    let names : c.shift_to.new.neq.names ≡ c.args.neq.now.names = ap (λ (n : PlainNeq). n.names) c.in-Err-Range.ensures.unchanged in
    let there = range_told (λ p. IsShift c.in_ok-values.values.items neq (Err p)) c.in-Err-Range.field-0 c.in-Err-Range.row c.in-Err-Range.col c.in-Err-Range.field-0-is c.in-Err-Range.ensures.range in
    inr (
      _,
      refl,
      (
        place,
        subst (λ l. IsShift l neq (Err place)) c.in_ok-values.ensures there,
        ap (λ id. Range id c.name_at-in-Err-Range.result) (c.name_at.ensures ∙ ap (λ l. name_at l c.in-Err-Range.row) names)
            ∙ ap (λ id. Range (name_at c.args.neq.now.names c.in-Err-Range.row) id) (c.name_at-in-Err-Range.ensures ∙ ap (λ l. name_at l c.in-Err-Range.col) names),
      ),
    )
