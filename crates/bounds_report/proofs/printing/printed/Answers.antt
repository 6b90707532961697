use Rattle.std.proofs.Common.{arith, subst}
use Rattle.whole_numbers.specs.Lists.{at}
use Rattle.enclosures.specs.Vectors.{IsSmall}
use Rattle.bounds_report.proofs.RowLaws.{are_rows}
use Rattle.bounds_report.proofs.printing.printed.Goals as goal

pub new-requires : goal.new-requires
new-requires g c =
    let w = c.args.w.now in
    let e = c.args.e.now in
    let q = c.requires in
    let small : IsSmall w.a.size (at e.y.items) = subst (λ n. IsSmall n (at e.y.items)) q.rows e.small in
    let rows = are_rows w.a.size w.e.items c.args.scales.now c.args.apriori.now e.y.items e.radius.w.items e.pilot (omega (arith, w.powers, w.e.ok.0)) q.scales q.len (omega (arith, q.rows, e.numbers, e.y.ok.0)) (omega (arith, q.rows, e.radii, e.radius.w.ok.0)) w.in_range q.scaled q.modest small e.radius.bounded q.rows in
    rw (c.deref.ensures.value, c.deref-2.ensures.value, c.deref-3.ensures.value) rows

pub returns-clause-printed : goal.returns-clause-printed
returns-clause-printed g c =
    let rows = rw (c.deref.ensures.value, c.deref-2.ensures.value, c.deref-3.ensures.value) at c.new.ensures in
    rw rows at c.rows_printed.ensures.printed

pub returns-clause-refused : goal.returns-clause-refused
returns-clause-refused g c =
    let rows = rw (c.deref.ensures.value, c.deref-2.ensures.value, c.deref-3.ensures.value) at c.new.ensures in
    rw rows at c.rows_printed.ensures.refused
