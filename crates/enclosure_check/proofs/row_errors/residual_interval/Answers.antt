use Rattle.std.proofs.Common.{arith, ◌^◌, ◌≤◌}
use Rattle.whole_numbers.specs.Intervals.{size, interval_sub}
use Rattle.whole_numbers.proofs.Sizes.{size_sub}
use Rattle.enclosure_check.proofs.ErrorLaws.{ends_fit, row_by_vector, residual_is}
use Rattle.enclosure_check.proofs.row_errors.residual_interval.Goals as goal

pub taken-requires : goal.taken-requires
taken-requires g c = row_by_vector c.args.rows.now.table.now.size c.lows.result.now c.highs.result.now c.args.y.now c.lows.ensures.len c.highs.ensures.len c.lows.ensures.small c.highs.ensures.small c.requires.vector

pub minus-requires : goal.minus-requires
minus-requires g c =
    let d : size c.ends_of.result ≤ 10 ^ 37 = rw c.ends_of.ensures (c.requires.rights.small c.args.i c.requires.row) in
    let s = size_sub c.ends_of.result c.taken.result (10 ^ 37) (2 ^ 125) d c.taken.ensures.bound in
    let fits = ends_fit (interval_sub c.ends_of.result c.taken.result) (omega (arith, s)) in
    record { lo_fits = fits.0; hi_fits = fits.1 }

pub returns-clause-value : goal.returns-clause-value
returns-clause-value g c =
    residual_is c.args.rows.now.table.now c.args.d.now c.lows.result.now c.highs.result.now c.args.y.now c.args.i c.ends_of.result c.taken.result c.minus.result
    c.requires.vector.len c.lows.ensures.ends c.highs.ensures.ends c.ends_of.ensures c.taken.ensures.value c.minus.ensures

pub returns-clause-bound : goal.returns-clause-bound
returns-clause-bound g c =
    let d : size c.ends_of.result ≤ 10 ^ 37 = rw c.ends_of.ensures (c.requires.rights.small c.args.i c.requires.row) in
    let s = size_sub c.ends_of.result c.taken.result (10 ^ 37) (2 ^ 125) d c.taken.ensures.bound in
    rw c.minus.ensures (omega (arith, s))
