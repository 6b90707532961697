use Rattle.std.proofs.Common.{ℤ, pos, negsuc, ◌≤◌, ◌*◌, ◌^◌, to_z, of_z, unsigned_abs, Option, Some, None, IfSome, arith, ap}
use Rattle.std.specs.Int.{w128}
use Rattle.std.proofs.Math.Nat.{mul-le-mul_right}
use Rattle.std.proofs.lemmas.Int.{ints, unsigned_abs-mul}
use Rattle.decimal_e.specs.Decimals.{Decimal, IsCanonicalOf, IsDecOf}
use Rattle.decimal_e.specs.Fractions.{IsAtMost}
use Rattle.whole_numbers.specs.Scaling.{ten_above, ten_below}
use Rattle.bounds_report.proofs.tests.apriori.Goals as goal

at_most : (m : ℤ) (d : Decimal) → unsigned_abs m ≤ 10 ^ 16 → IsCanonicalOf d (record { mant = m; exp = negsuc 3 }) → IsAtMost (10 ^ 12) d
at_most m d h is =
    let same = ap unsigned_abs is.same.same in
    let above = unsigned_abs-mul d.mant (pos (ten_above d.exp * 10 ^ 4)) in
    let below = unsigned_abs-mul m (pos (1 * ten_below d.exp)) in
    let whole = unsigned_abs-mul d.mant (pos (ten_above d.exp)) in
    omega (arith, same, above, below, whole, mul-le-mul_right (ten_below d.exp) h)

some_at_most : (m : ℤ) (r : Option Decimal) → unsigned_abs m ≤ 10 ^ 16 → IsDecOf (record { mant = m; exp = negsuc 3 }) r → IfSome r (IsAtMost (10 ^ 12))
some_at_most m None h is = tt
some_at_most m (Some d) h is = at_most m d h is.0

pub returns-then-unsigned_abs-le10000000000000000 : goal.returns-then-unsigned_abs-le10000000000000000
returns-then-unsigned_abs-le10000000000000000 c =
    some_at_most (to_z w128 (of_z w128 c.from.result)) c.new.result (omega (arith, ints)) c.new.ensures
