use Rattle.std.proofs.Common.{◌∙◌, sym, subst}
use Rattle.std.proofs.lemmas.Result.{IfOk-weaker, IfErr-weaker, err_from_is_err_and}
use Rattle.sys_model.specs.Systems.{Encloses}
use Rattle.whole_numbers.specs.Lists.{at}
use Rattle.equil.specs.Tables.{table_of}
use Rattle.enclosures.specs.Radii.{radius_at}
use Rattle.enclosure_check.specs.Answers.{IsCheckRefused}
use Rattle.enclosure_check.specs.CertificateLists.{IsRefusedOf, Certifies}
use Rattle.enclosure_check.specs.Certificates.{IsCertified, AreErrors, AreDefects}
use Rattle.enclosure_check.proofs.CertificateLaws.{error_refused, lists_refused}
use Rattle.enclosure_check.proofs.certificates.check.Goals as goal

pub returns-in_err-small_errors-clause-refused : goal.returns-in_err-small_errors-clause-refused
returns-in_err-small_errors-clause-refused g c =
    let a = c.args.rows.now.table.now in
    let n = a.size in
    let t = table_of a c.args.d.now in
    let p = c.args.p.now in
    let y = at c.args.y.now in
    let es = c.deref.result.now in
    let e = subst (AreErrors n t p y) (sym c.deref.ensures.value) (c.in_ok-row_errors.ensures) in
    let same = err_from_is_err_and c.from_residual-in_err-small_errors.result c.from_residual-in_err-small_errors.ensures.1 in
    rw (same.1, same.2) (error_refused n t p y es c.in_err-small_errors.field-0.0 e c.in_err-small_errors.ensures.refused)

pub certificate-requires : goal.certificate-requires
certificate-requires g c =
    let e = c.in_ok-row_errors.ensures in
    let d = c.in_ok-row_defects.ensures c.args.d.now in
    rw (c.deref-2.ensures.value, c.deref-3.ensures.value) (e.len ∙ sym d.len)

pub returns-clause-certified : goal.returns-clause-certified
returns-clause-certified g c =
    let a = c.args.rows.now.table.now in
    let n = a.size in
    let t = table_of a c.args.d.now in
    let p = c.args.p.now in
    let y = at c.args.y.now in
    let es = c.deref-2.result.now in
    let ds = c.deref-3.result.now in
    let e = subst (AreErrors n t p y) (sym c.deref-2.ensures.value) (c.in_ok-row_errors.ensures) in
    let d = subst (AreDefects n t p) (sym c.deref-3.ensures.value) (c.in_ok-row_defects.ensures c.args.d.now) in
    IfOk-weaker c.certificate.result (Certifies es ds) (IsCertified n t p y) (λ v r. (r n t p y e d).0) c.certificate.ensures.certified

pub returns-clause-encloses : goal.returns-clause-encloses
returns-clause-encloses g c =
    let a = c.args.rows.now.table.now in
    let n = a.size in
    let t = table_of a c.args.d.now in
    let p = c.args.p.now in
    let y = at c.args.y.now in
    let es = c.deref-2.result.now in
    let ds = c.deref-3.result.now in
    let e = subst (AreErrors n t p y) (sym c.deref-2.ensures.value) (c.in_ok-row_errors.ensures) in
    let d = subst (AreDefects n t p) (sym c.deref-3.ensures.value) (c.in_ok-row_defects.ensures c.args.d.now) in
    IfOk-weaker c.certificate.result (Certifies es ds) (λ v. Encloses n t y (radius_at v)) (λ v r. (r n t p y e d).1) c.certificate.ensures.certified

pub returns-clause-refused : goal.returns-clause-refused
returns-clause-refused g c =
    let a = c.args.rows.now.table.now in
    let n = a.size in
    let t = table_of a c.args.d.now in
    let p = c.args.p.now in
    let y = at c.args.y.now in
    let es = c.deref-2.result.now in
    let ds = c.deref-3.result.now in
    let e = subst (AreErrors n t p y) (sym c.deref-2.ensures.value) (c.in_ok-row_errors.ensures) in
    let d = subst (AreDefects n t p) (sym c.deref-3.ensures.value) (c.in_ok-row_defects.ensures c.args.d.now) in
    IfErr-weaker c.certificate.result (IsRefusedOf es ds) (IsCheckRefused n t p y) (λ r q. lists_refused n t p y es ds r e d q) c.certificate.ensures.refused
