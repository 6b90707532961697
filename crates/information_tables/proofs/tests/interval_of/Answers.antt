use Rattle.std.proofs.Common.{refl}
use Rattle.information_tables.proofs.TestLaws.{row_sound, one_element}
use Rattle.information_tables.proofs.tests.interval_of.Goals as goal

pub first_of-requires-clause-rows : goal.first_of-requires-clause-rows
first_of-requires-clause-rows g c κs within = row_sound c.in-Ok.id _ c.zero.result c.args.dev c.zero.ensures c.requires.dev

pub first_of-requires-clause-cells : goal.first_of-requires-clause-cells
first_of-requires-clause-cells g c κs within = one_element _ refl refl c.requires.value
