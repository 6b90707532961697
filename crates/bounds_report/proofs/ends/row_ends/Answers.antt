use Rattle.std.proofs.Common.{arith, ℤ, ◌+ℤ◌, to_z, of_z, ap, ◌∙◌}
use Rattle.std.specs.Int.{w128}
use Rattle.std.proofs.lemmas.Int.{ints}
use Rattle.whole_numbers.specs.Intervals.{Interval}
use Rattle.bounds_report.proofs.EndLaws.{ends_from}
use Rattle.bounds_report.proofs.ends.row_ends.Goals as goal

pub returns : goal.returns
returns c =
    let lo = c.lo.ensures.value ∙ ap (λ (w : Interval). w.lo) c.printed_interval-interval.ensures.value in
    let hi = c.hi.ensures.value ∙ ap (λ (w : Interval). w.hi) c.printed_interval-interval.ensures.value in
    let low = c.in_ok-low.ensures in
    let high = c.in_ok-high.ensures in
    let l : ℤ = to_z w128 (of_z w128 (to_z w128 (of_z w128 c.lo.result) +ℤ to_z w128 (of_z w128 c.in_ok-low.low))) in
    let u : ℤ = to_z w128 (of_z w128 (to_z w128 (of_z w128 c.hi.result) +ℤ to_z w128 (of_z w128 c.in_ok-high.high))) in
    let m : ℤ = to_z w128 (of_z w128 c.estimate.result) in
    ends_from c.args.rows.now c.args.i c.limited.result l u m low.0 high.0 (omega (arith, ints, lo, low.0, low.1)) (omega (arith, ints, hi, high.0, high.1)) (omega (arith, ints)) c.limited.ensures
