use Rattle.std.proofs.Common.{◌≡◌, ◌≤◌, ◌^◌, length, arith}
use Rattle.whole_numbers.specs.Intervals.{size}
use Rattle.sys_model.specs.Systems.{residual_interval}
use Rattle.sym_blocks.specs.Tables.{zero_interval}
use Rattle.whole_numbers.specs.Lists.{at}
use Rattle.equil.specs.Tables.{table_of}
use Rattle.whole_numbers.proofs.ListLaws.{each_push}
use Rattle.enclosure_check.proofs.row_errors.residual_intervals.Goals as goal

pub loop-i-preserved : goal.loop-i-preserved
loop-i-preserved g c =
    let a = c.args.rows.now.table.now in
    let before : length c.loop-i.entries.items ≡ c.loop-i.i = omega (arith, c.loop-i.invariant.len, c.loop-i.entries.ok.0) in
    let items = c.in_ok-push.ensures.items in
    let lefts = residual_interval a.size (table_of a c.args.d.now) (at c.args.y.now) in
    record {
      len = omega (arith, c.in_ok-push.ensures.len, c.loop-i.invariant.len);
      each = rw items (each_push (λ k v. v ≡ lefts k) c.loop-i.entries.items c.loop-i.i c.residual_interval.result zero_interval before c.loop-i.invariant.each c.residual_interval.ensures.value);
      small = rw items (each_push (λ k v. size v ≤ 2 ^ 126) c.loop-i.entries.items c.loop-i.i c.residual_interval.result zero_interval before c.loop-i.invariant.small c.residual_interval.ensures.bound);
    }
