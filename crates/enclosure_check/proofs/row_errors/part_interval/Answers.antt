use Rattle.std.proofs.Common.{rules, FitsSigned}
use Rattle.std.specs.Int.{w64, w128}
use Rattle.std.proofs.lemmas.Int.{to_z-of_z}
use Rattle.whole_numbers.specs.Lists.{at}
use Rattle.enclosure_check.proofs.ErrorLaws.{part_small}
use Rattle.enclosure_check.proofs.row_errors.part_interval.Goals as goal

pub times-requires : goal.times-requires
times-requires c =
    let fits : FitsSigned w128 c.from.result = search rules in
    let narrow : FitsSigned w64 (at c.args.row.now c.args.k) = search rules in
    let e = simp to_z-of_z at c.from.ensures in
    rw (to_z-of_z w128 c.from.result fits, c.nth_ends.ensures, e) (part_small c.args.row.now c.args.entries.now c.args.k c.requires.sizes c.requires.within)
