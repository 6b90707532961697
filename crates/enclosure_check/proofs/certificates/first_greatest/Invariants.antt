use Rattle.enclosure_check.proofs.CertificateLaws.{AreGreatest}
use Rattle.enclosure_check.proofs.certificates.first_greatest.Given as goal

abbrev pub invariant-loop-row : goal.invariant-loop-row
invariant-loop-row l = AreGreatest l.defects l.row l.first l.most
