use Rattle.std.proofs.Common.{◌*◌, ◌-◌, ◌+◌, arith, ap}
use Rattle.decimal_e.proofs.Numbers.{with_digit, eighteen}
use Rattle.decimal_e.proofs.digits.value_with.Goals as goal

pub overflow_mul-result : goal.overflow_mul-result
overflow_mul-result c =
    let h = with_digit c.args.tally.value c.args.tally.digits c.args.tally.zeros 0 c.requires.small (omega arith) in
    let e = eighteen (c.args.tally.digits + c.args.tally.zeros + 1) (omega (arith, c.requires.few)) in
    let m = ap (λ x. c.args.tally.value * x) c.pow.ensures in
    omega (arith, h, e, m)

pub overflow_add-result : goal.overflow_add-result
overflow_add-result c =
    let h = with_digit c.args.tally.value c.args.tally.digits c.args.tally.zeros (c.args.byte - 48) c.requires.small (omega (arith, c.requires.digit)) in
    let e = eighteen (c.args.tally.digits + c.args.tally.zeros + 1) (omega (arith, c.requires.few)) in
    let m = ap (λ x. c.args.tally.value * x) c.pow.ensures in
    omega (arith, h, e, m)

pub returns-clause-small : goal.returns-clause-small
returns-clause-small c =
    let h = with_digit c.args.tally.value c.args.tally.digits c.args.tally.zeros (c.args.byte - 48) c.requires.small (omega (arith, c.requires.digit)) in
    let m = ap (λ x. c.args.tally.value * x) c.pow.ensures in
    omega (arith, h, m)
