use Rattle.std.proofs.Common.{arith, ◌≡◌, []}
use Rattle.equil.specs.Tables.{table_of}
use Rattle.enclosure_check.specs.Certificates.{parts_of}
use Rattle.enclosure_check.proofs.DefectLaws.{turned_parts}
use Rattle.whole_numbers.proofs.ListLaws.{each_push}
use Rattle.enclosure_check.proofs.row_defects.defects.Goals as goal

pub loop-i-preserved : goal.loop-i-preserved
loop-i-preserved g c =
    let a = c.args.rows.now.table.now in
    let i = c.loop-i.i in
    let p = c.args.p.now in
    let v = c.loop-i.defects in
    let items = c.in_ok-push.ensures.items in
    let here = turned_parts i c.row_parts.result a [] p c.row_parts.ensures in
    record {
      len = omega (arith, c.in_ok-push.ensures.len, c.loop-i.invariant.len);
      each = rw items (each_push (λ k x. x ≡ parts_of a.size (table_of a []) p k) v.items i c.row_parts.result 0 (omega (arith, c.loop-i.invariant.len, v.ok.0)) c.loop-i.invariant.each here);
    }

pub returns : goal.returns
returns g c = λ d. record {
  len = omega (arith, c.loop-i.invariant.len, c.size-i-end.ensures, c.requires);
  each = λ i l. c.loop-i.invariant.each i (omega arith);
}
