use Rattle.std.proofs.Common.{arith, subst}
use Rattle.whole_numbers.specs.Lists.{at}
use Rattle.equil.specs.Tables.{table_of}
use Rattle.enclosure_check.specs.Certificates.{IsCertified}
use Rattle.enclosure_check.proofs.EnclosureLaws.{encloses_by}
use Rattle.enclosure_check.proofs.enclosure.enclosed_by.Goals as goal

pub returns-clause-enclosed : goal.returns-clause-enclosed
returns-clause-enclosed g c =
    let a = c.args.rows.now.table.now in
    let t = table_of a c.args.d.now in
    let p = c.args.p.now in
    let y = c.in_ok-y.y in
    let v = c.in_ok-radius.radius in
    let certified = subst (λ ys. IsCertified a.size t p (at ys) v) c.deref.ensures.value c.in_ok-radius.ensures.certified in
    encloses_by a.size t p y.items (omega (arith, c.in_ok-y.ensures.len, y.ok.0)) c.in_ok-y.ensures.vector v certified
