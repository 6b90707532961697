use Rattle.std.proofs.Common.{rules, FitsSigned}
use Rattle.std.specs.Int.{w128}
use Rattle.std.proofs.lemmas.Int.{to_z-of_z}
use Rattle.whole_numbers.specs.Lists.{at}
use Rattle.enclosure_check.proofs.ErrorLaws.{taken_small}
use Rattle.enclosure_check.proofs.row_errors.taken_interval.Goals as goal

pub times-requires : goal.times-requires
times-requires c =
    let y = c.args.y.now in
    let fits : FitsSigned w128 (at y c.args.j) = search rules in
    rw (to_z-of_z w128 (at y c.args.j) fits, c.entry_between.ensures) (taken_small c.args.low.now c.args.high.now y c.args.j c.requires.row c.requires.within)
