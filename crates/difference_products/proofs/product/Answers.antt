use Rattle.std.proofs.Common.{arith, Ok, Err}
use Rattle.std.proofs.lemmas.Result.{err_from_is_err_and, IfOk-weaker, IfErr-weaker}
use Rattle.stated_order.specs.First.{IsFirstFailure}
use Rattle.difference_products.specs.Answers.{factors_of, IfRange}
use Rattle.difference_products.specs.Parts.{OnDiagonal, RowFits, AreProductsTo}
use Rattle.difference_products.specs.Products.{IsProduct}
use Rattle.difference_products.proofs.PartLaws.{far_refused, small_for, wide_refused, product_answered}
use Rattle.difference_products.proofs.product.Goals as goal

pub returns-in_err-zs-clause-range : goal.returns-in_err-zs-clause-range
returns-in_err-zs-clause-range g c =
    let w = c.in_ok-w.w in
    let from = err_from_is_err_and c.from_residual-in_err-zs.result c.from_residual-in_err-zs.ensures.1 in
    rw (from.1, from.2) (far_refused c.args.table.now w.a c.args.differences.now c.args.scales.now w.e.items c.are_zero.result c.if-are_zero.false c.are_zero.ensures c.in_ok-w.ensures.working w.entries_small c.requires.differences
    c.deref.result.now c.deref.ensures.value c.in_err-zs.field-0.0 c.in_err-zs.ensures.far)

pub row_products-requires : goal.row_products-requires
row_products-requires g c =
    let w = c.in_ok-w.w in (
      omega arith,
      small_for c.args.table.now w.a c.args.differences.now c.args.scales.now w.e.items c.are_zero.result c.if-are_zero.false c.are_zero.ensures c.in_ok-w.ensures.working w.entries_small c.requires.differences
          c.in_ok-zs.zs.items c.deref-2.result.now c.deref.result.now c.deref-2.ensures.value c.deref.ensures.value c.in_ok-zs.ensures.scaled,
    )

pub returns-clause-product : goal.returns-clause-product
returns-clause-product g c =
    let w = c.in_ok-w.w in
    IfOk-weaker c.row_products.result (λ products. AreProductsTo w.a.size w.a c.deref-2.result.now w.e.items products.items) (λ products. IsProduct (factors_of c.args.table.now c.args.differences.now c.args.scales.now) (Ok products.items))
    (λ products h. product_answered c.args.table.now w.a c.args.differences.now c.args.scales.now w.e.items c.are_zero.result c.if-are_zero.false c.are_zero.ensures c.in_ok-w.ensures.working w.entries_small c.requires.differences
    c.in_ok-zs.zs.items c.deref-2.result.now c.deref.result.now c.deref-2.ensures.value c.deref.ensures.value c.in_ok-zs.ensures.scaled products.items h)
    c.row_products.ensures.products

pub returns-clause-range : goal.returns-clause-range
returns-clause-range g c =
    let w = c.in_ok-w.w in
    IfErr-weaker c.row_products.result (IfRange (OnDiagonal (IsFirstFailure w.a.size (RowFits w.a c.deref-2.result.now w.e.items)))) (IfRange (λ place. IsProduct (factors_of c.args.table.now c.args.differences.now c.args.scales.now) (Err place)))
    (λ x h. wide_refused c.args.table.now w.a c.args.differences.now c.args.scales.now w.e.items c.are_zero.result c.if-are_zero.false c.are_zero.ensures c.in_ok-w.ensures.working w.entries_small c.requires.differences
    c.in_ok-zs.zs.items c.deref-2.result.now c.deref.result.now c.deref-2.ensures.value c.deref.ensures.value c.in_ok-zs.ensures.scaled x h)
    c.row_products.ensures.wide
