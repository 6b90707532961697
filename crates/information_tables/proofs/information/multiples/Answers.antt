use Rattle.information_tables.proofs.ExistLaws.{multiples_are}
use Rattle.information_tables.proofs.information.multiples.Goals as goal

pub returns : goal.returns
returns c = multiples_are
