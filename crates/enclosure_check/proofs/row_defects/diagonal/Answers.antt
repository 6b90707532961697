use Rattle.std.proofs.Common.{arith, ◌≡◌, ◌∙◌, ◌+◌, ◌*◌, ◌%◌, ◌^◌, pos, sym, to_z}
use Rattle.std.specs.Int.{w128}
use Rattle.std.proofs.lemmas.Int.{ints}
use Rattle.whole_numbers.proofs.Sums.{unit_here}
use Rattle.whole_numbers.proofs.Division.{two_pow_le}
use Rattle.enclosure_check.proofs.row_defects.diagonal.Goals as goal

pub returns-then-j-i : goal.returns-then-j-i
returns-then-j-i c =
    let p = two_pow_le (c.args.g + 60) (omega arith) in
    let v : to_z w128 (1 * 2 ^ (c.args.g + 60) % 2 ^ 128) ≡ pos (2 ^ (c.args.g + 60)) = omega (arith, ints) in
    record { value = v ∙ rw c.if-j-i.true (sym (unit_here c.args.i (pos (2 ^ (c.args.g + 60))))); small = omega (arith, ints) }
