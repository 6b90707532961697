use Rattle.std.proofs.Common.{arith, ◌≡◌, length}
use Rattle.std.proofs.lemmas.List.Elements.{All-push}
use Rattle.equil.specs.Tables.{table_of}
use Rattle.bounds_report.specs.Printing.{HasSmallDeviation}
use Rattle.bounds_report.specs.Residuals.{numbers_from}
use Rattle.whole_numbers.proofs.ListLaws.{each_push}
use Rattle.bounds_report.proofs.printing.all_numbers.Goals as goal

pub loop-i-preserved : goal.loop-i-preserved
loop-i-preserved g c =
    let w = c.args.w.now in
    let items = c.in_ok-push.ensures.items in
    let before : length c.loop-i.all.items ≡ c.loop-i.i = omega (arith, c.loop-i.invariant.len, c.loop-i.all.ok.0) in
    record {
      len = omega (arith, c.in_ok-push.ensures.len, c.loop-i.invariant.len);
      rows = rw items (each_push (λ k p. p ≡ numbers_from w.a.size (table_of w.a w.d.items) c.args.rows.now c.args.ends.now c.args.zs.now k) c.loop-i.all.items c.loop-i.i c.numbers.result _ before c.loop-i.invariant.rows c.numbers.ensures.value);
      deviations = rw items (All-push HasSmallDeviation c.loop-i.all.items c.numbers.result c.loop-i.invariant.deviations c.numbers.ensures.deviation);
    }
