use Rattle.std.proofs.Common.{arith}
use Rattle.std.proofs.lemmas.Int.{ints}
use Rattle.enclosure_check.proofs.VectorLaws.{number_small}
use Rattle.enclosure_check.proofs.vector.corrected_at.Goals as goal

pub overflow_add-result : goal.overflow_add-result
overflow_add-result c =
    let number = number_small c.args.p.now.size c.args.y.now c.args.i c.requires.vector c.requires.row in
    omega (arith, ints, c.correction_at.ensures.bound, number)

pub returns : goal.returns
returns c =
    let number = number_small c.args.p.now.size c.args.y.now c.args.i c.requires.vector c.requires.row in
    record {
      value = omega (arith, ints, c.correction_at.ensures.value, c.correction_at.ensures.bound, number);
      bound = omega (arith, ints, c.correction_at.ensures.bound, number);
    }
