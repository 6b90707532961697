use Rattle.std.proofs.lemmas.Result.{IfOk-weaker, IfErr-weaker}
use Rattle.enclosure_check.specs.CertificateLists.{HasRadii, IsDefectRefused, IsRefusedOf, Certifies}
use Rattle.enclosure_check.proofs.CertificateLaws.{certifies, defect_refused}
use Rattle.enclosure_check.proofs.certificates.certificate.Goals as goal

pub returns-clause-certified : goal.returns-clause-certified
returns-clause-certified c =
    let es = c.args.errors.now in
    let ds = c.args.defects.now in
    IfOk-weaker c.certificate_of.result (HasRadii es ds) (Certifies es ds) (λ v r. certifies es ds v c.in_ok-small_errors.ensures.small r) c.certificate_of.ensures.radii

pub returns-clause-refused : goal.returns-clause-refused
returns-clause-refused c =
    let es = c.args.errors.now in
    let ds = c.args.defects.now in
    IfErr-weaker c.certificate_of.result (IsDefectRefused ds) (IsRefusedOf es ds) (λ r q. defect_refused es ds r c.in_ok-small_errors.ensures.small q) c.certificate_of.ensures.refused
