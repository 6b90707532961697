use Rattle.std.proofs.Common.{◌≡◌, ◌≤◌, ◌^◌, length, pos, unsigned_abs, arith, rules, FitsSigned}
use Rattle.std.specs.Int.{w128}
use Rattle.std.proofs.lemmas.Int.{to_z-of_z}
use Rattle.whole_numbers.specs.Lists.{at}
use Rattle.equil.specs.Tables.{table_of}
use Rattle.enclosure_check.specs.Vectors.{midpoint_residual}
use Rattle.whole_numbers.proofs.ListLaws.{each_push}
use Rattle.enclosure_check.proofs.vector.midpoint_residuals.Goals as goal

pub loop-i-preserved : goal.loop-i-preserved
loop-i-preserved g c =
    let a = c.args.rows.now.table.now in
    let before : length c.loop-i.numbers.items ≡ c.loop-i.i = omega (arith, c.loop-i.invariant.len, c.loop-i.numbers.ok.0) in
    let fits : FitsSigned w128 c.midpoint_residual.result = search rules in
    let items = simp to_z-of_z at c.in_ok-push.ensures.items in
    let lefts = midpoint_residual a.size (table_of a c.args.d.now) (at c.args.y.now) in
    let here : c.midpoint_residual.result ≡ lefts c.loop-i.i = rw c.in_ok-factors.ensures at c.midpoint_residual.ensures.value in
    record {
      len = omega (arith, c.in_ok-push.ensures.len, c.loop-i.invariant.len);
      each = rw items (each_push (λ k v. v ≡ lefts k) c.loop-i.numbers.items c.loop-i.i c.midpoint_residual.result (pos 0) before c.loop-i.invariant.each here);
      small = rw items (each_push (λ k v. unsigned_abs v ≤ 2 ^ 126) c.loop-i.numbers.items c.loop-i.i c.midpoint_residual.result (pos 0) before c.loop-i.invariant.small c.midpoint_residual.ensures.bound);
    }
