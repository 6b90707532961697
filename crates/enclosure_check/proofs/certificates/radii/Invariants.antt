use Rattle.std.proofs.Common.{◌≡◌, ◌<◌, ℕ, slice_index}
use Rattle.std.specs.Vec.{vec_len}
use Rattle.enclosure_check.specs.CertificateLists.{radius_from}
use Rattle.enclosure_check.proofs.certificates.radii.Given as goal

abbrev pub invariant-loop-i : goal.invariant-loop-i
invariant-loop-i l = record {
  len : vec_len l.w ≡ l.i;
  rows : (k : ℕ) → k < l.i → slice_index l.w.items k ≡ radius_from l.errors l.defects l.b l.m k;
}
