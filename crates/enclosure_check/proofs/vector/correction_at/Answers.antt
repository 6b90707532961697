use Rattle.std.proofs.Common.{◌+◌, ◌-◌, rules, FitsSigned}
use Rattle.std.specs.Int.{w128}
use Rattle.std.proofs.lemmas.Int.{to_z-of_z}
use Rattle.enclosure_check.proofs.VectorLaws.{change_small, change_is}
use Rattle.enclosure_check.proofs.vector.correction_at.Goals as goal

pub returns : goal.returns
returns c =
    let sum_fits : FitsSigned w128 c.row_by_numbers.result = search rules in
    let fits : FitsSigned w128 c.shift_floor.result = search rules in
    let floor = simp to_z-of_z at c.shift_floor.ensures in
    rw (to_z-of_z w128 c.shift_floor.result fits) (record {
      value = change_is c.args.p.now c.row.result.now c.args.numbers.now.numbers.now c.args.h c.args.i c.g.result c.row_by_numbers.result c.shift_floor.result c.requires.numbers.len c.row.ensures.entries c.row_by_numbers.ensures.value c.g.ensures.value floor;
      bound = change_small c.row_by_numbers.result c.shift_floor.result (c.g.result + 60 - c.args.h) c.row_by_numbers.ensures.bound floor;
    })
