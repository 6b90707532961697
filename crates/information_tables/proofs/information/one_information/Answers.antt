use Rattle.information_tables.proofs.Alone.{information_is_one}
use Rattle.information_tables.proofs.information.one_information.Goals as goal

pub returns : goal.returns
returns c = information_is_one c.one_table.ensures.tables c.one_covariances.ensures c.one_inverse.ensures
