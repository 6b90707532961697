use Rattle.std.proofs.Common.{arith, length, slice_index, ◌^◌}
use Rattle.enclosure_check.proofs.CertificateLaws.{greatest_to_le, le-greatest_to}
use Rattle.enclosure_check.proofs.certificates.certificate_of.Goals as goal

pub radii-requires-clause-small : goal.radii-requires-clause-small
radii-requires-clause-small c = let xs = c.args.errors.now in omega (arith, greatest_to_le (length xs) (slice_index xs) (2 ^ 66) c.requires.small)

pub radii-requires-clause-most_defects : goal.radii-requires-clause-most_defects
radii-requires-clause-most_defects c = λ k l. let xs = c.args.defects.now in omega (arith, le-greatest_to (length xs) (slice_index xs) k l, c.first_greatest-row.ensures.greatest)

pub radii-requires-clause-most_errors : goal.radii-requires-clause-most_errors
radii-requires-clause-most_errors c = λ k l. let xs = c.args.errors.now in omega (arith, le-greatest_to (length xs) (slice_index xs) k l, c.greatest-m.ensures)
