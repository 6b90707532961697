use Rattle.std.proofs.Common.{arith, ◌≡◌, ◌+◌, ◌*◌, ◌%◌, ◌^◌}
use Rattle.whole_numbers.proofs.Division.{two_pow_le}
use Rattle.enclosure_check.proofs.DefectLaws.{parts_small}
use Rattle.enclosure_check.proofs.row_defects.parts.Goals as goal

pub overflow_cast-result : goal.overflow_cast-result
overflow_cast-result c =
    let t = two_pow_le (c.args.g + 30) (omega arith) in
    let v : 1 * 2 ^ (c.args.g + 30) % 2 ^ 128 ≡ 2 ^ (c.args.g + 30) = omega arith in
    let d = rw v at c.div_ceil.ensures in
    omega (arith, d, parts_small c.args.g c.args.total c.requires.small)
