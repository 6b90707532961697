use Rattle.difference_products.proofs.SumLaws.{products_push}
use Rattle.difference_products.proofs.rows.row_products.Goals as goal

pub loop-row-preserved : goal.loop-row-preserved
loop-row-preserved g c =
    let w = c.args.w.now in
    let items = rw c.if-is_err.ensures.negation at c.push.ensures.items in
    rw items (products_push c.loop-row.row w.a c.args.zs.now w.e.items c.loop-row.products.items c.in-Some.product c.loop-row.invariant c.in-Some.ensures.0 c.in-Some.ensures.1)
