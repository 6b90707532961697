use Rattle.std.proofs.Common.{arith, ◌+◌}
use Rattle.enclosure_check.specs.ErrorParts.{part_interval}
use Rattle.enclosure_check.proofs.ErrorLaws.{parts_small, step_fits}
use Rattle.enclosure_check.proofs.row_errors.row_by_entries.Goals as goal

pub plus-sum-requires : goal.plus-sum-requires
plus-sum-requires c =
    let r = c.args.row.now in
    let ws = c.args.entries.now in
    let s = parts_small r ws (c.loop-k.k + 1) c.requires (omega arith) in
    let m = step_fits c.loop-k.k (part_interval r ws) c.loop-k.sum c.part_interval.result c.loop-k.invariant c.part_interval.ensures s in
    record { lo_fits = m.0; hi_fits = m.1 }
