use Rattle.std.proofs.Common.{◌∙◌, unsigned_abs, ap}
use Rattle.std.specs.Int.{w128}
use Rattle.std.proofs.lemmas.Int.{to_z-of_z}
use Rattle.whole_numbers.specs.Intervals.{interval_scale}
use Rattle.named_tables.proofs.DigitLaws.{past_digits, within_digits}
use Rattle.named_tables.proofs.weights.times_digits.Goals as goal

pub returns-then-mag-unsigned_abs : goal.returns-then-mag-unsigned_abs
returns-then-mag-unsigned_abs c =
    let same = to_z-of_z w128 c.args.digits c.ranges.digits in
    past_digits c.args.digits c.args.interval.now c.mag.result c.unsigned_abs.result c.requires c.mag.ensures (c.unsigned_abs.ensures.value ∙ ap unsigned_abs same) c.if-mag-unsigned_abs.true

pub returns : goal.returns
returns c =
    let same = to_z-of_z w128 c.args.digits c.ranges.digits in (
      within_digits c.args.digits c.args.interval.now c.mag.result c.unsigned_abs.result c.requires c.mag.ensures (c.unsigned_abs.ensures.value ∙ ap unsigned_abs same) c.if-mag-unsigned_abs.false,
      c.mul_small.ensures ∙ ap (λ digits. interval_scale digits c.args.interval.now) same,
    )
