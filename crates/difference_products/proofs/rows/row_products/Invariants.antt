use Rattle.difference_products.specs.Parts.{AreProductsTo}
use Rattle.difference_products.proofs.rows.row_products.Given as goal

abbrev pub invariant-loop-row : goal.invariant-loop-row
invariant-loop-row g l = AreProductsTo l.row l.w.a l.zs l.w.e.items l.products.items
