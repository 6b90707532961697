use Rattle.std.proofs.Common.{◌∙◌, arith, ap, subst, sym, rules, FitsSigned, to_z, of_z, w64}
use Rattle.std.specs.Int.{w128, IsIsqrt}
use Rattle.std.proofs.lemmas.Int.{ints, to_z-of_z}
use Rattle.chol_factor.specs.Making.{IsDiagonal}
use Rattle.chol_factor.proofs.ColumnLaws.{diagonal_found}
use Rattle.chol_factor.proofs.columns.diagonal.Goals as goal

pub returns-clause-found : goal.returns-clause-found
returns-clause-found c =
    let t = c.args.t in
    let r = c.isqrt.result in
    let wide : FitsSigned w128 t = c.ranges.t in
    let product = simp to_z-of_z at c.product.ensures in
    let size = simp to_z-of_z at c.unsigned_abs.ensures.value in
    let product_fits : FitsSigned w128 c.product.result = search rules in
    let square = simp to_z-of_z at c.isqrt.ensures in
    let found = diagonal_found t r (omega (arith, ints)) (omega (arith, size)) (subst (λ z. IsIsqrt z r) product square) in
    let root_wide : FitsSigned w128 r = search rules in
    let root_fits : FitsSigned w64 r = omega (arith, ints, found.fits) in
    subst (IsDiagonal t) (sym (ap (λ z. to_z w64 (of_z w64 z)) (to_z-of_z w128 r root_wide) ∙ to_z-of_z w64 r root_fits)) found
