use Rattle.std.proofs.Common.{arith, ◌^◌, ◌≤◌, ◌∙◌, ap, unsigned_abs}
use Rattle.std.proofs.lemmas.Int.{ints}
use Rattle.whole_numbers.specs.Intervals.{size, midpoint}
use Rattle.enclosure_check.proofs.ErrorLaws.{row_by_vector}
use Rattle.enclosure_check.proofs.VectorLaws.{middle_small, residual_is}
use Rattle.enclosure_check.proofs.vector.midpoint_residual.Goals as goal

pub taken-requires : goal.taken-requires
taken-requires g c = row_by_vector c.args.rows.now.table.now.size c.lows.result.now c.highs.result.now c.args.y.now.numbers.now c.lows.ensures.len c.highs.ensures.len c.lows.ensures.small c.highs.ensures.small c.requires.vector

pub returns-clause-value : goal.returns-clause-value
returns-clause-value g c =
    let d : size c.nth_entry.result ≤ 10 ^ 37 = rw c.nth_entry.ensures (c.requires.rights.small c.args.i c.requires.row) in
    let m : unsigned_abs c.mid.result ≤ 10 ^ 37 = rw c.mid.ensures (middle_small c.nth_entry.result (10 ^ 37) d) in
    residual_is c.args.rows.now.table.now c.args.d.now c.lows.result.now c.highs.result.now c.args.y.now.numbers.now c.args.i c.mid.result c.taken.result _
    c.requires.vector.len c.lows.ensures.ends c.highs.ensures.ends (c.mid.ensures ∙ ap (λ w. midpoint w) c.nth_entry.ensures) c.taken.ensures.value (omega (arith, ints, c.taken.ensures.bound))

pub returns-clause-bound : goal.returns-clause-bound
returns-clause-bound g c =
    let d : size c.nth_entry.result ≤ 10 ^ 37 = rw c.nth_entry.ensures (c.requires.rights.small c.args.i c.requires.row) in
    let m : unsigned_abs c.mid.result ≤ 10 ^ 37 = rw c.mid.ensures (middle_small c.nth_entry.result (10 ^ 37) d) in
    omega (arith, ints, c.taken.ensures.bound)
