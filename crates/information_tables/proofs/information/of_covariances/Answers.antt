use Rattle.std.proofs.Common.{Ok, subst}
use Rattle.snx_matrices.specs.declared.elements.Content.TheVariants.{Cova}
use Rattle.named_tables.specs.Tables.{IsTableBy}
use Rattle.named_tables.specs.Weighted.{one_decimal}
use Rattle.information_tables.proofs.AnswerLaws.{answered}
use Rattle.information_tables.proofs.ExistLaws.{covariances_exist}
use Rattle.information_tables.proofs.LieLaws.{covariances_symmetric, covariances_held}
use Rattle.information_tables.proofs.information.of_covariances.Goals as goal

pub returns-in-Ok : goal.returns-in-Ok
returns-in-Ok g c =
    let rows = c.args.rows.now in
    let cells = c.args.cells.now in
    let scales = c.args.scales.now in
    let names = c.args.names.now in
    let table = c.in-Ok.covariances in
    let given : IsTableBy Cova rows cells one_decimal scales names (Ok table) = subst (λ weight. IsTableBy Cova rows cells weight scales names (Ok table)) c.one-unit.ensures c.in-Ok.ensures.table in
    answered c.args.weight.now names (IsTableBy Cova rows cells one_decimal scales names) rows cells Cova scales c.requires.names.0 (covariances_symmetric rows cells names Cova) table given.0.size given (covariances_exist rows cells names)
    (λ Q has. covariances_held rows cells scales names table given.0.size Q given.0 has) c.weighted_inverse.result c.weighted_inverse.ensures.table c.weighted_inverse.ensures.refused c.weighted_inverse.ensures.made
