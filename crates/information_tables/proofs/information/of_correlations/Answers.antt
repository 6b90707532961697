use Rattle.snx_matrices.specs.declared.elements.Content.TheVariants.{Corr}
use Rattle.correlations.specs.Correlations.{AreCovariances}
use Rattle.information_tables.proofs.AnswerLaws.{answered}
use Rattle.information_tables.proofs.ExistLaws.{correlations_exist}
use Rattle.information_tables.proofs.LieLaws.{covariances_symmetric, correlations_held}
use Rattle.information_tables.proofs.information.of_correlations.Goals as goal

pub returns-in-Ok : goal.returns-in-Ok
returns-in-Ok g c =
    let rows = c.args.rows.now in
    let cells = c.args.cells.now in
    let scales = c.args.scales.now in
    let names = c.args.names.now in
    let table = c.in-Ok.covariances in
    let made = c.in-Ok.ensures in
    answered c.args.weight.now names (AreCovariances rows cells scales names) rows cells Corr scales c.requires.names.0 (covariances_symmetric rows cells names Corr) table made.size made.table (correlations_exist rows cells names made.exists)
    (λ Q has. correlations_held rows cells scales names table made.size Q made.holds has) c.weighted_inverse.result c.weighted_inverse.ensures.table c.weighted_inverse.ensures.refused c.weighted_inverse.ensures.made
