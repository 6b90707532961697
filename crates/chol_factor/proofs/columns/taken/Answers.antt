use Rattle.std.proofs.Common.{◌∙◌, ◌^◌, FitsSigned, arith}
use Rattle.std.specs.Int.{w128}
use Rattle.std.proofs.lemmas.Int.{ints, to_z-of_z}
use Rattle.chol_factor.proofs.ColumnLaws.{taken_is}
use Rattle.chol_factor.proofs.columns.taken.Goals as goal

pub returns-clause-value : goal.returns-clause-value
returns-clause-value c =
    let fits : FitsSigned w128 c.fixed_products.result = omega (arith, ints) in
    to_z-of_z w128 c.fixed_products.result fits
    ∙ c.fixed_products.ensures.value
    ∙ taken_is c.args.f.now c.args.i c.args.j c.row_before.result.now c.row_before-2.result.now c.row_before.ensures.len c.row_before.ensures.numbers c.row_before-2.ensures.numbers

pub fixed_products-requires-clause-left : goal.fixed_products-requires-clause-left
fixed_products-requires-clause-left c = c.row_before.ensures.small (2 ^ 61) c.requires.small

pub fixed_products-requires-clause-right : goal.fixed_products-requires-clause-right
fixed_products-requires-clause-right c = c.row_before-2.ensures.small (2 ^ 61) c.requires.small
