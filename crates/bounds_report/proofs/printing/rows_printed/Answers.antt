use Rattle.std.proofs.Common.{arith, ◌≡◌, length}
use Rattle.equil.specs.Tables.{table_of}
use Rattle.bounds_report.proofs.DifferenceLaws.{small_intervals}
use Rattle.bounds_report.proofs.PrintingLaws.{all_printed}
use Rattle.bounds_report.proofs.printing.rows_printed.Goals as goal

pub all_numbers-requires : goal.all_numbers-requires
all_numbers-requires g c =
    let done = rw c.requires.count at c.in_ok-zs.ensures.differences in
    let small = small_intervals c.args.w.now.a.size c.args.rows.now c.in_ok-zs.zs.items done in
    let len : length c.deref-2.result.now ≡ c.args.w.now.a.size = rw c.deref-2.ensures.value (omega (arith, c.in_ok-ends.ensures.ends.len, c.requires.count)) in
    (omega arith, (c.requires.count, (len, rw c.deref-3.ensures.value small)))

pub returns-in-Ok-clause-printed : goal.returns-in-Ok-clause-printed
returns-in-Ok-clause-printed g c =
    let w = c.args.w.now in
    let ends = rw c.requires.count at c.in_ok-ends.ensures.ends in
    let done = rw c.requires.count at c.in_ok-zs.ensures.differences in
    let rows = rw (c.deref-2.ensures.value, c.deref-3.ensures.value) at c.in-Ok.ensures.rows in
    let len : length c.in-Ok.all.items ≡ w.a.size = omega (arith, c.in-Ok.ensures.len, c.in-Ok.all.ok.0) in
    all_printed w.a.size (table_of w.a w.d.items) c.args.rows.now c.in_ok-ends.ends.items c.in_ok-zs.zs.items c.in-Ok.all.items ends done len rows
