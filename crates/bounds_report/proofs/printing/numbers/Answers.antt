use Rattle.std.proofs.Common.{ℤ, to_z, of_z, w32, arith}
use Rattle.std.proofs.lemmas.Int.{ints}
use Rattle.bounds_report.specs.Printing.{IsNearPower}
use Rattle.bounds_report.proofs.printing.numbers.Goals as goal

-- a near power fits 32 bits
kept : (k : ℤ) → IsNearPower k → IsNearPower (to_z w32 (of_z w32 k))
kept k near = record { least = omega (arith, ints, near.least, near.most); most = omega (arith, ints, near.least, near.most) }

pub returns-clause-deviation : goal.returns-clause-deviation
returns-clause-deviation g c =
    record { deviation = c.deviation.ensures.bound; place = kept c.place.result c.place.ensures.near; deviation_place = kept c.deviation_place.result c.deviation_place.ensures.near }
