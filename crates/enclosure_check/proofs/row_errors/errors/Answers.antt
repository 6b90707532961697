use Rattle.std.proofs.lemmas.Result.{IfOk-weaker}
use Rattle.whole_numbers.specs.Lists.{at}
use Rattle.equil.specs.Tables.{table_of}
use Rattle.enclosure_check.specs.Certificates.{AreErrors}
use Rattle.enclosure_check.specs.ErrorParts.{AreShiftedErrors}
use Rattle.enclosure_check.proofs.ErrorLaws.{errors_are, left_shifted}
use Rattle.enclosure_check.proofs.row_errors.errors.Goals as goal

pub errors_of-requires-clause-sizes : goal.errors_of-requires-clause-sizes
errors_of-requires-clause-sizes g c =
    let a = c.args.rows.now.table.now in
    let entries = c.in_ok-entries.entries.items in
    let least = rw c.deref.ensures.value at c.least_shift-h.ensures.least in
    let shifted = rw c.deref-2.ensures.value at c.in_ok-shifted.ensures in
    rw (c.deref-3.ensures.value, c.requires.sizes)
    (left_shifted a.size (table_of a c.args.d.now) (at c.args.y.now) entries c.in_ok-shifted.shifted.items c.least_shift-h.result c.args.rows.now.working.few c.in_ok-entries.ensures least shifted)

pub returns : goal.returns
returns g c =
    let a = c.args.rows.now.table.now in
    let t = table_of a c.args.d.now in
    let y = at c.args.y.now in
    let entries = c.in_ok-entries.entries.items in
    let vs = c.in_ok-shifted.shifted.items in
    let h = c.least_shift-h.result in
    let least = rw c.deref.ensures.value at c.least_shift-h.ensures.least in
    let shifted = rw c.deref-2.ensures.value at c.in_ok-shifted.ensures in
    let errors = rw c.deref-3.ensures.value at c.errors_of.ensures in
    IfOk-weaker c.errors_of.result (λ v. AreShiftedErrors c.args.p.now vs h v.items) (λ v. AreErrors a.size t c.args.p.now y v.items)
    (λ v are. errors_are a.size t y c.args.p.now entries vs h c.requires.sizes c.least_shift-h.ensures.few c.in_ok-entries.ensures least shifted v.items are) errors
