use Rattle.std.proofs.Common.{◌≤◌, ◌∙◌, ◌≡◌, ◌^◌, List, All, Err, length, sym, ap, subst, arith}
use Rattle.std.specs.Prelude.{slice_index_or}
use Rattle.std.proofs.lemmas.Result.{err_from_is_err_and, IfErr-weaker}
use Rattle.whole_numbers.specs.Intervals.{Interval, size}
use Rattle.sym_blocks.specs.Tables.{zero_interval}
use Rattle.param_ids.specs.Tables.{IsScale}
use Rattle.neq_stack.specs.Neqs.{neq_view}
use Rattle.difference_products.specs.Answers.{factors_of}
use Rattle.difference_products.specs.Products.{IsProduct}
use Rattle.apriori_shift.specs.Answers.{IfRange}
use Rattle.apriori_shift.specs.Parts.{NoneIsPast, IsFirstPast, IsMovedRight, IsPast}
use Rattle.apriori_shift.specs.Shifts.{less_by}
use Rattle.apriori_shift.proofs.DifferenceLaws.{differences_length}
use Rattle.apriori_shift.proofs.RightLaws.{right_small}
use Rattle.apriori_shift.proofs.ShiftLaws.{both_ok, range_weaker, product_refused, right_refused, right_moved}
use Rattle.apriori_shift.proofs.rights.right_at.Goals as goal

pub products_of-requires : goal.products_of-requires
products_of-requires g c =
    let sound = c.requires.sound in
    let many = differences_length c.args.values.now c.deref.result.now c.in_ok-differences.differences.items c.in_ok-differences.ensures in (
      omega arith,
      (
        ap length c.deref-2.ensures.value ∙ many ∙ c.requires.lengths ∙ sym sound.rows,
        (ap length c.deref-3.ensures.value ∙ sound.exponents ∙ sym sound.rows, subst (All IsScale) (sym c.deref-3.ensures.value) sound.scaled),
      ),
    )

pub returns-in_err-products-clause-past : goal.returns-in_err-products-clause-past
returns-in_err-products-clause-past g c =
    let neq = neq_view c.args.neq.now in
    let from = err_from_is_err_and c.from_residual-in_err-products.result c.from_residual-in_err-products.ensures.1 in
    rw (from.1, from.2) (range_weaker (λ place. IsProduct (factors_of neq.table c.deref-2.result.now c.deref-3.result.now) (Err place)) (IsPast c.args.values.now neq)
    (product_refused c.args.values.now neq c.deref.result.now c.in_ok-differences.differences.items c.deref-2.result.now c.deref-3.result.now c.deref.ensures.value c.in_ok-differences.ensures c.deref-2.ensures.value c.deref-3.ensures.value)
    c.in_err-products.field-0.0 c.in_err-products.ensures.range)

pub rights_less-requires-clause-rights : goal.rights_less-requires-clause-rights
rights_less-requires-clause-rights g c = λ i row.
    let neq = neq_view c.args.neq.now in
    let rights = ap length c.deref-4.ensures.value in
    subst (λ (l : List Interval). size (slice_index_or l i zero_interval) ≤ 10 ^ 36) (sym c.deref-4.ensures.value) (right_small neq (10 ^ 36) c.requires.sound c.requires.modest i (omega arith))

pub returns-clause-moved : goal.returns-clause-moved
returns-clause-moved g c =
    let neq = neq_view c.args.neq.now in
    let right = c.deref-4.result.now in
    let products = c.deref-5.result.now in
    both_ok (λ less. less.items ≡ less_by right products) (λ less. NoneIsPast right products) (λ less. IsMovedRight c.args.values.now neq less.items)
    (λ less is fit. right_moved c.args.values.now neq c.deref.result.now c.in_ok-differences.differences.items c.deref-2.result.now c.deref-3.result.now c.deref.ensures.value c.in_ok-differences.ensures c.deref-2.ensures.value c.deref-3.ensures.value
    c.in_ok-products.products.items products right c.requires.sound c.in_ok-products.ensures.product c.deref-5.ensures.value c.deref-4.ensures.value less.items is fit)
    c.rights_less.result c.rights_less.ensures.less c.rights_less.ensures.fit

pub returns-clause-past : goal.returns-clause-past
returns-clause-past g c =
    let neq = neq_view c.args.neq.now in
    let right = c.deref-4.result.now in
    let products = c.deref-5.result.now in
    IfErr-weaker c.rights_less.result (IfRange (IsFirstPast right products)) (IfRange (IsPast c.args.values.now neq))
    (range_weaker (IsFirstPast right products) (IsPast c.args.values.now neq)
    (right_refused c.args.values.now neq c.deref.result.now c.in_ok-differences.differences.items c.deref-2.result.now c.deref-3.result.now c.deref.ensures.value c.in_ok-differences.ensures c.deref-2.ensures.value c.deref-3.ensures.value
    c.in_ok-products.products.items products right c.requires.sound c.in_ok-products.ensures.product c.deref-5.ensures.value c.deref-4.ensures.value))
    c.rights_less.ensures.past
